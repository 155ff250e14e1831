-- What a loop over records does at each turn, for any section; and how a section's own answer goes into the whole. Assumes nothing.
use Prim.Native.Nat.{ℕ, zero, suc, ◌+◌, ◌-◌, ◌*◌, ◌≤◌, ◌<◌}
use Rattle.std.specs.Prelude.{◌≡◌, refl, List}
use Rattle.std.proofs.Common.{sym, ◌∙◌, add-one}
use native.Mathlib.Omega.{arith}
use Rattle.rules.specs.Lists.{given, how_many}
use Rattle.rules.specs.Bytes.{le}
use Rattle.rules.specs.Refusals.{refusal, or_else, or_fault, scan, record_fault, section}
use Rattle.rules.specs.declared.Sections.{Sections}
use Rattle.rules.specs.Reading.{Reading, Accepted, Refused}

pub given_yes : {X P : Type 0} (q : Dec P) (a b : X) → P → given q a b ≡ a
unfolding given
given_yes (yes p) a b h = refl
given_yes (no n) a b h = absurd (n h)

pub given_no : {X P : Type 0} (q : Dec P) (a b : X) → (P → ⊥) → given q a b ≡ b
unfolding given
given_no (yes p) a b h = absurd (h p)
given_no (no n) a b h = refl

pub refuses : (m x : ℕ) (r : Reading) → (m ≡ 0 → ⊥) → or_else m x r ≡ Refused m x
unfolding or_else
refuses zero x r h = absurd (h refl)
refuses (suc m) x r h = refl

-- the answer A is that of the records from i on
module _ (f : ℕ → ℕ) (w base n i : ℕ) (r : Reading) {A : Reading} (inv : scan f w base i (n - i) r ≡ A) where
  pub at_fault : {m : ℕ} → i < n → m ≡ f i → (m ≡ 0 → ⊥) → Refused m (base + i * w) ≡ A
  unfolding scan
  at_fault {m} h e z =
      let q : n - i ≡ suc (n - (i + 1)) = omega arith in
      rw e (sym (refuses (f i) (base + i * w) _ (λ x. z (e ∙ x))) ∙ (rw q at inv))

  pub goes_on_lem : i < n → f i ≡ 0 → scan f w base (i + 1) (n - (i + 1)) r ≡ A
  unfolding scan or_else
  goes_on_lem h e = let q : n - i ≡ suc (n - (i + 1)) = omega arith in rw (q, e) at inv

  pub at_end : n ≤ i → r ≡ A
  unfolding scan
  at_end h = let q : n - i ≡ 0 = omega arith in rw q at inv

-- ---- a section that is accepted hands on to what follows

pub or_then : (m x : ℕ) (r s : Reading) → refusal (or_else m x r) ≡ 0 → or_else m x s ≡ s
unfolding or_else refusal
or_then zero x r s e = refl
or_then (suc m) x r s e = absurd (omega arith)

pub or_passed : (m x : ℕ) (r : Reading) → refusal (or_else m x r) ≡ 0 → (m ≡ 0) × (refusal r ≡ 0)
unfolding or_else refusal
or_passed zero x r e = (refl, e)
or_passed (suc m) x r e = absurd (omega arith)

pub scan_then : (f : ℕ → ℕ) (w base i k : ℕ) (q r : Reading) → refusal (scan f w base i k q) ≡ 0 → scan f w base i k r ≡ r
unfolding scan
scan_then f w base i zero q r e = refl
scan_then f w base i (suc k) q r e =
    or_then (f i) (base + i * w) (scan f w base (i + 1) k q) (scan f w base (i + 1) k r) e
    ∙ scan_then f w base (i + 1) k q r (or_passed (f i) (base + i * w) (scan f w base (i + 1) k q) e).1

pub section_then : (told : ℕ → ℕ) (s : List ℕ) (at low high w : ℕ) (recs : List ℕ) (f : ℕ → ℕ) (q r : Reading)
    → refusal (section told s at low high w recs f q) ≡ 0 → section told s at low high w recs f r ≡ r
unfolding section
section_then told s at low high w recs f q r e =
    let n = told (le 2 s at) in
    or_then _ at (scan (record_fault recs w f) w (at + 2) 0 n q) (scan (record_fault recs w f) w (at + 2) 0 n r) e
    ∙ scan_then (record_fault recs w f) w (at + 2) 0 n q r (or_passed _ at (scan (record_fault recs w f) w (at + 2) 0 n q) e).1

-- ---- and one that is refused is the whole answer

or_stop : (m x : ℕ) (r s : Reading) {a b : ℕ} → or_else m x r ≡ Refused a b → (r ≡ Refused a b → s ≡ Refused a b) → or_else m x s ≡ Refused a b
unfolding or_else
or_stop zero x r s e h = h e
or_stop (suc m) x r s e h = e

scan_stop : (f : ℕ → ℕ) (w base i k : ℕ) (g : Sections) (r : Reading) {a b : ℕ}
    → scan f w base i k (Accepted g) ≡ Refused a b → scan f w base i k r ≡ Refused a b
unfolding scan
scan_stop f w base i zero g r e = let z : ◌≡◌ {A = ℕ} 0 1 = cc in let f : ⊥ = omega arith in absurd f
scan_stop f w base i (suc k) g r e = or_stop (f i) (base + i * w) (scan f w base (i + 1) k (Accepted g)) _ e (scan_stop f w base (i + 1) k g r)

-- ---- rules that are decided

-- rules that say the same
pub same_rule : {A B : Type 0} (q : Dec A) (p : Dec B) (m : ℕ) → (A → B) → (B → A) → given q 0 m ≡ given p 0 m
unfolding given
same_rule (yes a) p m f g = sym (given_yes p 0 m (f a))
same_rule (no n) p m f g = sym (given_no p 0 m (λ b. n (g b)))

-- a rule is broken that is part of another
pub part_broken : {A B : Type 0} (q : Dec A) (p : Dec B) (m : ℕ) → (B → A) → (given q 0 m ≡ 0 → ⊥) → given q 0 m ≡ given p 0 m
unfolding given
part_broken (yes a) p m g z = absurd (z refl)
part_broken (no n) p m g z = sym (given_no p 0 m (λ b. n (g b)))

-- what 1 says of a rule that is counted, and what another number says
pub is_one : {P : Type 0} (q : Dec P) {r : ℕ} → r ≡ given q 1 0 → r ≡ 1 → P
unfolding given
is_one (yes p) e z = p
is_one (no n) e z = let f : ⊥ = omega arith in absurd f

pub not_one : {P : Type 0} (q : Dec P) {r : ℕ} → r ≡ given q 1 0 → (r ≡ 1 → ⊥) → P → ⊥
unfolding given
not_one (yes p) e z h = z e
not_one (no n) e z h = n h

-- one more is counted where the rule holds of n
pub one_counted : {P : ℕ → Type 0} (n : ℕ) (d : (k : ℕ) → Dec (P k)) {m r : ℕ} → m ≡ how_many n d → r ≡ given (d n) 1 0 → m + r ≡ how_many (n + 1) d
unfolding how_many
one_counted n d p q = rw (add-one n, p, q)

-- the first of two faults: found, or passed over
pub found : (m k : ℕ) {r : ℕ} → r ≡ m → (r ≡ 0 → ⊥) → r ≡ or_fault m k
unfolding or_fault
found zero k e z = absurd (z e)
found (suc m) k e z = e

pub passed : (m k : ℕ) {r q : ℕ} → r ≡ m → r ≡ 0 → q ≡ k → q ≡ or_fault m k
unfolding or_fault
passed zero k e z p = p
passed (suc m) k e z p = let f : ⊥ = omega arith in absurd f
