-- The laws of a lent part that is filled from the front: one byte more, one part more, one record more. Assumes nothing.
use Prim.Native.Nat.{ℕ, zero, suc, zero-le, ◌+◌, ◌-◌, ◌*◌, ◌≤◌, ◌<◌, ◌/◌, ◌%◌}
use mathlib.Core.Path.{◌≡◌, refl, ap, ◌∙◌, sym}
use mathlib.Core.List.{List, [], ◌∷◌, ◌++◌, append_assoc}
use native.Mathlib.Nat.{suc-mul, mul-le-mul_right, zero-mul, le_trans}
use native.Mathlib.Numerals.{add-one}
use native.Mathlib.Omega.{arith}
use lib.ListN.{length, take, drop, set, length-append, length-take, length-drop, take-append-drop}
use lib.Seq.{drop-cons, take_at, drop_at, drop-drop, set-append_seam, drop-append-le}
use borrow.Rule.Slice.PartMut.{put_mid}
use Rattle.rules.specs.Bytes.{bytes, each, onto}
use Rattle.store.specs.Filled.{Filled, numbers}

-- ---- the bytes of a number

-- v without its lowest i bytes
unfoldable pub above : (i v : ℕ) → ℕ
above zero v = v
above (suc i) v = above i v / 256

above_in : (i v : ℕ) → above i (v / 256) ≡ above i v / 256
unfolding above
above_in zero v = refl
above_in (suc i) v = ap (λ (x : ℕ). x / 256) (above_in i v)

pub above_more : (i v : ℕ) → above (i + 1) v ≡ above i v / 256
unfolding above
above_more i v = rw add-one

bytes_more : (i v : ℕ) → bytes (suc i) v ≡ bytes i v ++ ((above i v % 256) ∷ [])
unfolding bytes above
bytes_more zero v = refl
bytes_more (suc i) v = rw (bytes_more i (v / 256), above_in)

pub length_bytes : (w v : ℕ) → length (bytes w v) ≡ w
unfolding bytes
length_bytes zero v = refl
length_bytes (suc w) v = ap suc (length_bytes w (v / 256))

-- ---- one byte more

length_onto : (e s : List ℕ) → length e ≤ length s → length (onto e s) ≡ length s
unfolding onto
length_onto e s h = simp (length-append, length-drop) (omega arith)

pub filled_length : {e s t : List ℕ} → Filled e s t → length t ≡ length s
filled_length {e} {s} p = ap length p.bytes ∙ length_onto e s p.fits

-- nothing yet
pub filled_none : (s : List ℕ) → Filled [] s s
unfolding onto
filled_none s = record { bytes = refl; fits = zero-le }

-- at the place n that the bytes so far reach
onto_more : (e s : List ℕ) (b n : ℕ) → length e ≡ n → n < length s → set (onto e s) n b ≡ onto (e ++ (b ∷ [])) s
unfolding onto
onto_more e s b n q h =
    let k : length e < length s = rw q h in
    rw (← q, drop-cons s (length e) 0, set-append_seam, length-append, add-one, append_assoc)

-- one turn of `put`: the next byte of v
pub put_turn : {s s₀ : List ℕ} {x : ℕ} (v i : ℕ) → Filled (bytes i v) s₀ s → x ≡ above i v → i < length s₀ → Filled (bytes (i + 1) v) s₀ (set s i (x % 256))
put_turn {s} {s₀} v i p q h =
    record {
      bytes = rw (p.bytes, q, add-one, bytes_more) (onto_more (bytes i v) s₀ (above i v % 256) i (length_bytes i v) h);
      fits = rw length_bytes (omega arith);
    }

-- ---- one part more

-- f over the start of the k elements from the a-th on, where e reaches to a
pub filled_part : {e f s xs ys : List ℕ} (a k : ℕ) → length e ≡ a → Filled e s xs → Filled f (take k (drop a xs)) ys → Filled (e ++ f) s (put_mid a k xs ys)
unfolding onto
filled_part {e} {f} {s} {xs} {ys} a k la p q =
    let x : xs ≡ e ++ drop (length e) s = p.bytes in
    let y : ys ≡ f ++ drop (length f) (take k (drop a xs)) = q.bytes in
    let t : take a xs ≡ e = rw x (take_at e (drop (length e) s) a la) in
    let d : drop a xs ≡ drop (length e) s = rw x (drop_at e (drop (length e) s) a la) in
    let m : drop (length f) (take k (drop a xs)) ++ drop k (drop a xs) ≡ drop (length e + length f) s =
    sym (drop-append-le (length f) (take k (drop a xs)) (drop k (drop a xs)) q.fits)
    ∙ ap (λ (l : List ℕ). drop (length f) l) (take-append-drop k (drop a xs) ∙ d) ∙ drop-drop (length f) (length e) s in
    let l : length f ≤ length s - length e = le_trans q.fits (simp (length-take, d, length-drop) (omega arith)) in
    let g : length e ≤ length s = p.fits in
    record {
      bytes = rw (t, y, append_assoc f, m, length-append, append_assoc);
      fits = rw length-append (omega arith);
    }

-- the part from the a-th element to the b-th
pub filled_span : {e f s xs ys : List ℕ} (a b : ℕ) → length e ≡ a → Filled e s xs
    → Filled f (take (b - a) (drop a xs)) ys → Filled (e ++ f) s (put_mid a (b - a) xs ys)
filled_span a b la p q = filled_part a (b - a) la p q

-- the part from the a-th element to the end
pub filled_rest : {e f s xs ys : List ℕ} (a : ℕ) → length e ≡ a → Filled e s xs → Filled f (take (length xs - a) (drop a xs)) ys
    → Filled (e ++ f) s (put_mid a (length xs - a) xs ys)
filled_rest {xs = xs} a la p q = filled_part a (length xs - a) la p q

-- ---- one record more

pub each_more : (f : ℕ → List ℕ) (n : ℕ) → each f (n + 1) ≡ each f n ++ f n
unfolding each
each_more f n = rw add-one

-- the same records
pub each_same : (f g : ℕ → List ℕ) (n : ℕ) → ((i : ℕ) → i < n → f i ≡ g i) → each f n ≡ each g n
unfolding each
each_same f g zero h = refl
each_same f g (suc n) h = rw (each_same f g n (λ i l. h i (omega arith)), h n (omega arith))

pub length_each : (f : ℕ → List ℕ) (w n : ℕ) → ((i : ℕ) → length (f i) ≡ w) → length (each f n) ≡ n * w
unfolding each
length_each f w zero h = sym (zero-mul w)
length_each f w (suc n) h = rw (length-append, length_each f w n h, h, suc-mul)

pub length_numbers : (w : ℕ) (xs : List ℕ) (from n : ℕ) → length (numbers w xs from n) ≡ n * w
unfolding numbers
length_numbers w xs from n = length_each _ w n (λ i. length_bytes w _)

-- the records before the i-th and the i-th have room where n have
pub room : (i n w : ℕ) {l : ℕ} → i < n → n * w ≤ l → i * w + w ≤ l
room i n w h g =
    let m : suc i * w ≤ n * w = mul-le-mul_right w h in
    le_trans (rw suc-mul at m) g

-- the next record, of the same width, in the part from its place to the end
pub each_turn : {s s₀ ys : List ℕ} (f : ℕ → List ℕ) (w i : ℕ) → ((j : ℕ) → length (f j) ≡ w) → Filled (each f i) s₀ s
    → Filled (f i) (take (length s - i * w) (drop (i * w) s)) ys → Filled (each f (i + 1)) s₀ (put_mid (i * w) (length s - i * w) s ys)
each_turn f w i h p q = rw each_more (filled_rest (i * w) (length_each f w i h) p q)
