-- The number that the rules give each outcome. Assumes nothing.
use Rattle.std.specs.Prelude.{ℕ}
use Rattle.rules.specs.Names.{administrative, auctioned, too_wide}
use Rattle.auction.specs.declared.Outcome.{Outcome}
use Rattle.auction.specs.declared.Outcome.TheVariants.{Administrative, Auctioned, TooWide}

abbrev pub number_of : Outcome → ℕ
number_of Administrative = administrative
number_of Auctioned = auctioned
number_of TooWide = too_wide
