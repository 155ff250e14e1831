-- Texts that a call prints one after the other. Assumes nothing.
use Rattle.std.specs.Prelude.{ℕ, ◌≤◌, ◌<◌, ◌≡◌, List, length}
use Rattle.lines.specs.Printed.{Printed}
use denote.Ref.{MutBor}
use denote.Param.Members.{Shared}

module _ {F : Type 0} (g : Shared F (ℕ × (MutBor (List ℕ) × Unit {0})) (ℕ × (MutBor (List ℕ) × Unit {0}))) (line : F) (longest n : ℕ) where
  -- the call may be made for each of n texts, at a part as long as the longest
  abbrev pub TakesLines : Type 0
  TakesLines = (i : ℕ) (p : MutBor (List ℕ)) → i < n → length p.now ≡ longest → g.pre line (i, (p, tt))

  -- its answer is no more than that
  abbrev pub ShortLines : Type 0
  ShortLines = (i r : ℕ) (p q : MutBor (List ℕ)) → i < n → g.post line (i, (p, tt)) (r, (q, tt)) → r ≤ longest

  -- and it prints text i of these over the start of that part
  pub record Prints (f : ℕ → List ℕ) : Type 0 where
    pub printed : (i r : ℕ) (p q : MutBor (List ℕ)) → i < n → g.post line (i, (p, tt)) (r, (q, tt)) → Printed (f i) longest p.now q.now r
