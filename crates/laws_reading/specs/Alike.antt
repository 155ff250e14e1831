-- Bytes that two files have alike: the numbers read from them, and the parts that they occupy. Assumes nothing.
use Rattle.std.specs.Prelude.{ℕ, zero, suc, ◌+◌, ◌-◌, ◌≤◌, ◌<◌, min, ◌≡◌, refl, List, [], ◌∷◌, length, get_or, drop}
use Rattle.std.proofs.Common.{sym, ap, ◌∙◌, arith, length-take, length-drop, get_or-take, get_or-drop}
use Rattle.rules.specs.Bytes.{le, part}

-- the same w bytes at a place
abbrev pub Same : List ℕ → List ℕ → (at w : ℕ) → Type 0
Same s t at w = (j : ℕ) → j < w → get_or s (at + j) 0 ≡ get_or t (at + j) 0

-- a number within the same bytes is the same
pub le_same : (k : ℕ) (s t : List ℕ) (at w x : ℕ) → Same s t at w → at ≤ x → x + k ≤ at + w → le k s x ≡ le k t x
unfolding le
le_same zero s t at w x h l u = refl
le_same (suc k) s t at w x h l u =
    let e : at + (x - at) ≡ x = omega arith in
    let q : get_or s x 0 ≡ get_or t x 0 = rw e at (h (x - at) (omega arith)) in
    let r = le_same k s t at w (x + 1) h (omega arith) (omega arith) in
    omega arith

-- lists as long as each other, with the same numbers
pub lists_same : (s t : List ℕ) → length s ≡ length t → ((i : ℕ) → i < length s → get_or s i 0 ≡ get_or t i 0) → s ≡ t
lists_same [] [] e h = refl
lists_same [] (y ∷ t) e h = absurd (omega arith)
lists_same (x ∷ s) [] e h = absurd (omega arith)
lists_same (x ∷ s) (y ∷ t) e h =
    λ j. h 0 (omega arith) j ∷ lists_same s t (omega arith) (λ i l. h (suc i) (omega arith)) j

-- a byte of a part is the file's; past the part there is none
pub part_byte : (s : List ℕ) (a e i : ℕ) → i < e - a → get_or (part s a e) i 0 ≡ get_or s (a + i) 0
part_byte s a e i h = get_or-take (e - a) (drop a s) i 0 h ∙ get_or-drop a s i 0

less : (e n a : ℕ) → min (e - a) (n - a) ≡ min e n - a
less e n a = omega arith

pub part_size_lem : (s : List ℕ) (a e : ℕ) → length (part s a e) ≡ min e (length s) - a
part_size_lem s a e = length-take (e - a) (drop a s) ∙ ap (min (e - a)) (length-drop a s) ∙ less e (length s) a

-- past its end a list has no number
pub get_d_past : (l : List ℕ) (i : ℕ) → length l ≤ i → get_or l i 0 ≡ 0
get_d_past [] i h = refl
get_d_past (x ∷ l) zero h = absurd (omega arith)
get_d_past (x ∷ l) (suc i) h = get_d_past l i (omega arith)

-- parts over the same bytes
pub part_same : (s t : List ℕ) (a e : ℕ) → min e (length s) ≡ min e (length t) → ((i : ℕ) → a ≤ i → i < e → get_or s i 0 ≡ get_or t i 0)
    → part s a e ≡ part t a e
part_same s t a e m h =
    lists_same (part s a e) (part t a e) (part_size_lem s a e ∙ ap (λ (n : ℕ). n - a) m ∙ sym (part_size_lem t a e))
    (λ i l. let k = within i (rw (part_size_lem s a e) at l) in part_byte s a e i k ∙ h (a + i) (omega arith) (omega arith) ∙ sym (part_byte t a e i k))
  where
    within : (i : ℕ) → i < min e (length s) - a → i < e - a
    within i l = omega arith
