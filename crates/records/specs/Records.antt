-- What each section's own checks answer, over the part of the file that its records occupy. Assumes nothing.
use Rattle.std.specs.Prelude.{ℕ, ◌+◌, ◌*◌, List}
use Rattle.rules.specs.Names.{year_width, pot_width, tech_width, app_width}
use Rattle.rules.specs.File.{deliveries}
use Rattle.rules.specs.Refusals.{scan, record_fault, year_fault, pot_fault, tech_fault, app_fault}
use Rattle.rules.specs.declared.Sections.{Sections}
use Rattle.rules.specs.Reading.{Reading, Accepted}
use Rattle.layout.specs.Layout.{laid_out}

-- the sections of a file of which the years are read: how many, d of them delivery years, from `base` on
abbrev pub with_years : (n d base : ℕ) → Sections
with_years n d base = laid_out n d 0 0 0 0 0 (base + n * year_width) 0 0 0

-- ---- the records `recs`, which start at `base` of the file, in file order; `g` is the answer where nothing is wrong

unfoldable pub years_of : List ℕ → (n base : ℕ) → Reading
years_of recs n base = scan (record_fault recs year_width (year_fault recs)) year_width base 0 n (Accepted (with_years n (deliveries recs n) base))

unfoldable pub pots_of : List ℕ → (base : ℕ) → Sections → Reading
pots_of recs base g =
    let width = pot_width g.years g.gained in
    scan (record_fault recs width (pot_fault g.years g.gained recs)) width base 0 g.pots (Accepted g)

unfoldable pub techs_of : List ℕ → (base : ℕ) → Sections → Reading
techs_of recs base g =
    scan (record_fault recs (tech_width g.years) (tech_fault g.years g.deliveries g.pots recs)) (tech_width g.years) base 0 g.technologies
    (Accepted g)

unfoldable pub apps_of : (years recs : List ℕ) → (base : ℕ) → Sections → Reading
apps_of years recs base g =
    scan (record_fault recs app_width (app_fault years g.deliveries g.technologies recs)) app_width base 0 g.applications (Accepted g)
