-- What the judge of a year's record answers. Assumes nothing.
use Rattle.std.specs.Prelude.{ℕ, ◌≡◌, List, Result, MatchResult}
use Rattle.rules.specs.Names.{year_width}
use Rattle.rules.specs.File.{year_at}
use Rattle.rules.specs.Refusals.{record_fault, year_fault}
use Rattle.rules.specs.Reading.{number_of}
use Rattle.rules.specs.declared.Rule.{Rule}
use Rattle.layout.specs.declared.kind.Kind.{Kind}
use Rattle.layout.specs.Kind.{number_of as kind_number}

-- the kind of year y, at which nothing is at fault; or the rule that it breaks
abbrev pub KindRight : (recs : List ℕ) (y : ℕ) → Result Kind Rule → Type 0
KindRight recs y r =
    let fault = record_fault recs year_width (year_fault recs) y in
    MatchResult r (λ kind. (fault ≡ 0) × (kind_number kind ≡ (year_at recs y).kind)) (λ rule. number_of rule ≡ fault)
