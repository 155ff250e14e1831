-- What the public functions leave behind, beyond what crate rules defines. Assumes nothing.
use Rattle.std.specs.Prelude.{ℕ, ◌≤◌, ◌≡◌, List, length, ltb}
use Rattle.rules.specs.Names.{result_short}
use Rattle.rules.specs.Lists.{pick}
use Rattle.rules.specs.Bytes.{onto}
use Rattle.rules.specs.Result.{refused_as, refused_at, clear_of}
use Rattle.rules.specs.Listing.{listing_of}
use Rattle.rules.specs.Answer.{Answer}
use Rattle.laws_reading.specs.Small.{largest}
use Rattle.listing.specs.ToldLines.{longest}

-- a clearing: the answer and every byte of the lent buffer are those of the rules
pub record Clears (file lent : List ℕ) (r : Answer) (exit : List ℕ) : Type 0 where
  pub answer : r ≡ (clear_of file lent).answer
  pub bytes : exit ≡ (clear_of file lent).exit

-- a refusal's number and offset are small
pub record SmallAnswer (r : Answer) : Type 0 where
  pub number : refused_as r ≤ result_short
  pub at : refused_at r ≤ largest

-- a listing over the start of lent bytes and its length; nothing, and 0, where fewer are lent than the longest listing has
pub record Listed : Type 0 where
  pub length : ℕ
  pub exit : List ℕ

unfoldable pub listed : (file lent : List ℕ) → Listed
listed file lent =
    pick (ltb (length lent) longest) (record { length = 0; exit = lent }) (record { length = length (listing_of file); exit = onto (listing_of file) lent })

-- a listing: its length and every byte of the lent text
pub record Lists (file lent : List ℕ) (r : ℕ) (exit : List ℕ) : Type 0 where
  pub length : r ≡ (listed file lent).length
  pub bytes : exit ≡ (listed file lent).exit
