-- The rules of records whose numbers have been read: what a function answers that is handed the numbers. Assumes nothing.
use Rattle.std.specs.Prelude.{ℕ, ◌%◌, List}
use Rattle.std.proofs.Math.Decide.{dec_le, dec_lt, ℕ_discrete}
use Rattle.rules.specs.Names.{pot_broken, tech_broken, app_broken, whole, highest_price, price_step, largest_capacity}
use Rattle.rules.specs.Lists.{given, both, when, never, every}
use Rattle.rules.specs.File.{App, year_at, app_at}
use Rattle.rules.specs.Refusals.{cap_right?}

-- 4 of a pot's cap
unfoldable pub cap_fault : (cap : ℕ) → ℕ
cap_fault cap = given (cap_right? cap) 0 pot_broken

-- 5 of a technology's numbers in year y, the delivery years being the first d
unfoldable pub prices_of : (y d admin reference load : ℕ) → ℕ
prices_of y d admin reference load =
    given
    (both (dec_le load whole)
    (both (dec_le reference highest_price)
    (both (when (dec_lt y d) (both (dec_le price_step admin) (both (dec_le admin highest_price) (ℕ_discrete (admin % price_step) 0))))
    (when (dec_le d y) (ℕ_discrete admin 0)))))
    0
    tech_broken

-- 6 of an application's numbers, its draw apart
unfoldable pub numbers_of : List ℕ → (d t : ℕ) → App → ℕ
numbers_of years d t x =
    given
    (both (dec_lt x.tech t)
    (both (dec_lt x.year d)
    (both (dec_lt 0 x.days)
    (both (dec_le x.days (year_at years x.year).days) (both (dec_lt 0 x.capacity) (dec_le x.capacity largest_capacity))))))
    0
    app_broken

-- 6 of its draw
unfoldable pub draw_of : List ℕ → ℕ → ℕ
draw_of apps a = given (every a (λ k. never (ℕ_discrete (app_at apps k).draw (app_at apps a).draw))) 0 app_broken
