-- The laws of a text that is put down piece by piece. Assumes nothing.
use Prim.Native.Nat.{ℕ, zero-le, ◌+◌, ◌-◌, ◌*◌, ◌≤◌}
use mathlib.Core.Path.{◌≡◌, refl, sym}
use mathlib.Core.List.{List, [], ◌++◌}
use native.Mathlib.Omega.{arith}
use lib.ListN.{length, take, drop, length-append}
use borrow.Rule.Slice.PartMut.{put_mid}
use Rattle.rules.specs.Bytes.{each}
use Rattle.store.proofs.Laws.{filled_none, filled_part, each_more}
use Rattle.lines.specs.Printed.{Printed}

-- one piece more, in the k bytes from where the text has come to
printed_part : {e f s xs ys : List ℕ} {m n a b : ℕ} (k : ℕ) → Printed e m s xs a → Printed f n (take k (drop a xs)) ys b
    → Printed (e ++ f) (m + n) s (put_mid a k xs ys) (a + b)
printed_part {a = a} k p q =
    record {
      long = rw length-append (omega (arith, p.long, q.long));
      within = omega (arith, p.within, q.within);
      filled = filled_part a k (sym p.long) p.filled q.filled;
    }

-- or in the part from there on
pub printed_then : {e f s xs ys : List ℕ} {m n a b : ℕ} → Printed e m s xs a → Printed f n (take (length xs - a) (drop a xs)) ys b
    → Printed (e ++ f) (m + n) s (put_mid a (length xs - a) xs ys) (a + b)
printed_then {xs = xs} {a = a} p q = printed_part (length xs - a) p q

-- a greater bound
pub printed_within : {e s t : List ℕ} {m r : ℕ} (k : ℕ) → m ≤ k → Printed e m s t r → Printed e k s t r
printed_within k h p = record { long = p.long; within = omega (arith, p.within); filled = p.filled }

-- nothing yet
pub printed_none : (s : List ℕ) → Printed [] 0 s s 0
printed_none s = record { long = refl; within = zero-le; filled = filled_none s }

-- one text more, in the w bytes from where they have come to
pub each_printed : {s s₀ ys : List ℕ} {a b : ℕ} (f : ℕ → List ℕ) (w i : ℕ) → Printed (each f i) (w * i) s₀ s a
    → Printed (f i) w (take (a + w - a) (drop a s)) ys b
    → Printed (each f (i + 1)) (w * (i + 1)) s₀ (put_mid a (a + w - a) s ys) (a + b)
each_printed {a = a} f w i p q =
    let e : w * i + w ≡ w * (i + 1) = omega arith in
    rw (each_more, ← e) (printed_part (a + w - a) p q)
