-- Records of one width, each stored by a call. Assumes nothing.
use Rattle.std.specs.Prelude.{ℕ, ◌≤◌, ◌<◌, ◌≡◌, List, length}
use Rattle.store.specs.Filled.{Filled}
use denote.Ref.{MutBor}
use denote.Param.Members.{Shared}

module _ {F : Type 0} (g : Shared F (ℕ × (MutBor (List ℕ) × Unit {0})) (Unit {0} × (MutBor (List ℕ) × Unit {0}))) (write : F) (width n : ℕ) where
  -- the call may be made for each of n records, at a part in which it has room
  abbrev pub TakesRecords : Type 0
  TakesRecords = (i : ℕ) (p : MutBor (List ℕ)) → i < n → width ≤ length p.now → g.pre write (i, (p, tt))

  -- and it stores record i of these over the start of that part
  pub record Stores (f : ℕ → List ℕ) : Type 0 where
    pub wide : (i : ℕ) → length (f i) ≡ width
    pub stored : (i : ℕ) (p q : MutBor (List ℕ)) → i < n → g.post write (i, (p, tt)) (tt, (q, tt)) → Filled (f i) p.now q.now
