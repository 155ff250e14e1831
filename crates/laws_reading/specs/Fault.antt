-- The sections of a file one by one: where an accepted file ends, and the first fault of a refused one. Assumes nothing.
use Rattle.std.specs.Prelude.{ℕ, zero, suc, ◌+◌, ◌-◌, ◌*◌, ◌≤◌, ◌<◌, ◌≡◌, refl, List, [], ◌∷◌, ◌⊎◌, length, drop}
use Rattle.std.proofs.Common.{sym, ◌∙◌, length-take, length-drop, not-suc-le-zero}
use Rattle.std.proofs.Math.Path.{ap}
use Rattle.std.proofs.Math.Logic.{inl, inr, ⊎_elim}
use native.Mathlib.Omega.{arith}
use Rattle.rules.specs.Names.{most_years, most_pots, most_techs, most_apps, most_bids, count_width, year_width, pot_width, tech_width, app_width, bid_width, bytes_after}
use Rattle.rules.specs.Lists.{given}
use Rattle.rules.specs.Bytes.{le, part}
use Rattle.rules.specs.File.{Round, pots_told, round_of, sections, sections_of, app_at, bid_at, pots_at, techs_at, apps_at, bids_at, end_at}
use Rattle.rules.specs.Refusals.{refusal, or_else, scan, plain, count_fault, record_fault, section, year_fault, pot_fault, tech_fault, app_fault, bid_fault, eleven_of}
use Rattle.rules.specs.Refusals.{judged, reading, IsAccepted}
use Rattle.rules.specs.declared.Sections.{Sections}
use Rattle.rules.specs.Reading.{Reading, Accepted, Refused}
use Rattle.laws_reading.specs.Walk.{given_yes, given_no, refuses, or_passed}
use Rattle.laws_reading.specs.Reading.{holds, all_passed, all_whole, Sound, accepted}

-- ---- the five sections

-- how many records a section's count tells, where it stands, from what to what it may tell, how wide the records are, the part that they occupy, and what is
-- wrong with each
pub record Table : Type 0 where
  pub told : ℕ → ℕ
  pub at : ℕ
  pub low : ℕ
  pub high : ℕ
  pub width : ℕ
  pub recs : List ℕ
  pub fault : ℕ → ℕ

module _ (R : Round) where
  abbrev pub years : Table
  years = record { told = plain; at = 0; low = 1; high = most_years; width = year_width; recs = R.years; fault = year_fault R.years }

  abbrev pub pots : Table
  pots = record {
    told = pots_told;
    at = pots_at R.y;
    low = 1;
    high = most_pots;
    width = pot_width R.y R.c;
    recs = R.pots;
    fault = pot_fault R.y R.c R.pots;
  }

  abbrev pub techs : Table
  techs = record {
    told = plain;
    at = techs_at R.y R.c R.p;
    low = 1;
    high = most_techs;
    width = tech_width R.y;
    recs = R.techs;
    fault = tech_fault R.y R.d R.p R.techs;
  }

  abbrev pub apps : Table
  apps = record {
    told = plain;
    at = apps_at R.y R.c R.p R.t;
    low = 0;
    high = most_apps;
    width = app_width;
    recs = R.apps;
    fault = app_fault R.years R.d R.t R.apps;
  }

  abbrev pub bids : Table
  bids = record {
    told = plain;
    at = bids_at R.y R.c R.p R.t R.n;
    low = 0;
    high = most_bids;
    width = bid_width;
    recs = R.bids;
    fault = bid_fault R;
  }

  -- in the order of the file
  abbrev pub tables : List Table
  tables = years ∷ pots ∷ techs ∷ apps ∷ bids ∷ []

  -- where the last record ends
  abbrev pub ends : ℕ
  ends = end_at R.y R.c R.p R.t R.n R.b

module _ (s : List ℕ) where
  -- how many records a section's count tells, what is wrong with it, and with record i
  abbrev pub says : Table → ℕ
  says T = T.told (le count_width s T.at)

  abbrev pub count_is : Table → ℕ
  count_is T = count_fault T.told s T.at T.low T.high

  abbrev pub record_is : Table → ℕ → ℕ
  record_is T i = record_fault T.recs T.width T.fault i

  -- a section is judged, then what follows; and sections one after the other
  abbrev pub judges : Table → Reading → Reading
  judges T q = section T.told s T.at T.low T.high T.width T.recs T.fault q

  abbrev pub judges_all : List Table → Reading → Reading
  judges_all [] q = q
  judges_all (T ∷ Ts) q = judges T (judges_all Ts q)

  -- nothing is wrong with a section: with its count, nor with any record
  pub record Right (T : Table) : Type 0 where
    pub count : count_is T ≡ 0
    pub each : (i : ℕ) → i < says T → record_is T i ≡ 0

  -- the first fault of a section is m, at x: that of its count; or that of a record, where the count is right and all records before
  pub data Faulty (T : Table) (m x : ℕ) : Type 0 where
    in_count : 0 < m → count_is T ≡ m → x ≡ T.at → Faulty T m x
    in_record : 0 < m → count_is T ≡ 0 → (i : ℕ) → i < says T → ((k : ℕ) → k < i → record_is T k ≡ 0) → record_is T i ≡ m
        → x ≡ T.at + count_width + i * T.width → Faulty T m x

  pub data AllRight : List Table → Type 0 where
    none : AllRight []
    also : {T : Table} {Ts : List Table} → Right T → AllRight Ts → AllRight (T ∷ Ts)

  -- the first fault of sections one after the other: the sections before it are right
  pub data FirstIn (m x : ℕ) : List Table → Type 0 where
    here : {T : Table} {Ts : List Table} → Faulty T m x → FirstIn m x (T ∷ Ts)
    later : {T : Table} {Ts : List Table} → Right T → FirstIn m x Ts → FirstIn m x (T ∷ Ts)

-- The first fault of a file is m, at x: in a section; or there are bytes after the last record; or a bid is the lowest of its application in its year
-- and not a multiple of 10, and no bid before it is such
pub data FirstFault (s : List ℕ) (R : Round) (m x : ℕ) : Type 0 where
  in_section : FirstIn s m x (tables R) → FirstFault s R m x
  after : AllRight s (tables R) → ends R < length s → m ≡ bytes_after → x ≡ ends R → FirstFault s R m x
  uneven : 0 < m → AllRight s (tables R) → length s ≤ ends R → (i : ℕ) → i < R.b → ((k : ℕ) → k < i → eleven_of R k ≡ 0) → eleven_of R i ≡ m
      → x ≡ (bids R).at + count_width + i * bid_width → FirstFault s R m x

-- ---- a refusal is the first fault

or_cases : (n y : ℕ) (q : Reading) {m x : ℕ} → or_else n y q ≡ Refused m x → ((n ≡ m) × (x ≡ y) × (0 < m)) ⊎ ((n ≡ 0) × (q ≡ Refused m x))
unfolding or_else
or_cases zero y q e = inr (refl, e)
or_cases (suc n) y q {m} {x} e = inl (let a : suc n ≡ m = cc in let b : x ≡ y = cc in (a, b, omega arith))

-- of k records from record i on, the first that has a fault
record Found (f : ℕ → ℕ) (width base i k m x : ℕ) : Type 0 where
  which : ℕ
  among : which < k
  before : (j : ℕ) → j < which → f (i + j) ≡ 0
  fault : f (i + which) ≡ m
  some : 0 < m
  place : x ≡ base + (i + which) * width

-- one record more in front, with no fault
one_before : (f : ℕ → ℕ) (i k : ℕ) → f i ≡ 0 → ((j : ℕ) → j < k → f (i + 1 + j) ≡ 0) → (j : ℕ) → j < suc k → f (i + j) ≡ 0
one_before f i k e h zero l = let z : i + 0 ≡ i = omega arith in ap f z ∙ e
one_before f i k e h (suc j) l = let q : i + suc j ≡ i + 1 + j = omega arith in ap f q ∙ h j (omega arith)

scan_cases : (f : ℕ → ℕ) (w base i k : ℕ) (q : Reading) {m x : ℕ} → scan f w base i k q ≡ Refused m x
    → Found f w base i k m x ⊎ (((j : ℕ) → j < k → f (i + j) ≡ 0) × (q ≡ Refused m x))
unfolding scan
scan_cases f w base i zero q e = inr (λ j l. absurd (not-suc-le-zero l), e)
scan_cases f w base i (suc k) q {m} {x} e =
    ⊎_elim
    (λ a.
    let z : i + 0 ≡ i = omega arith in
    inl (record { which = 0; among = omega arith; before = λ j l. absurd (not-suc-le-zero l); fault = ap f z ∙ a.0; some = a.2; place = rw z a.1 }))
    (λ b.
    ⊎_elim
    (λ r.
    let z : i + 1 + r.which ≡ i + suc r.which = omega arith in
    inl (record {
      which = suc r.which;
      among = omega (arith, r.among);
      before = one_before f i r.which b.0 r.before;
      fault = ap f (sym z) ∙ r.fault;
      some = r.some;
      place = r.place ∙ ap (λ (n : ℕ). base + n * w) z;
    }))
    (λ r. inr (one_before f i k b.0 r.0, r.1))
    (scan_cases f w base (i + 1) k q b.1))
    (or_cases (f i) (base + i * w) (scan f w base (i + 1) k q) e)

module _ (s : List ℕ) where
  section_cases : (T : Table) (q : Reading) {m x : ℕ} → judges s T q ≡ Refused m x → Faulty s T m x ⊎ (Right s T × (q ≡ Refused m x))
  unfolding section
  section_cases T q e =
      let z : (j : ℕ) → 0 + j ≡ j = λ j. omega arith in
      ⊎_elim
      (λ a. inl (in_count a.2 a.0 a.1))
      (λ b.
      ⊎_elim
      (λ r.
      inl (in_record r.some b.0 r.which r.among (λ k l. ap (record_is s T) (sym (z k)) ∙ r.before k l)
      (ap (record_is s T) (sym (z r.which)) ∙ r.fault)
      (r.place ∙ ap (λ (n : ℕ). T.at + count_width + n * T.width) (z r.which))))
      (λ r. inr (record { count = b.0; each = λ i l. ap (record_is s T) (sym (z i)) ∙ r.0 i l }, r.1))
      (scan_cases (record_is s T) T.width (T.at + count_width) 0 (says s T) q b.1))
      (or_cases (count_is s T) T.at _ e)

  sections_cases : (Ts : List Table) (q : Reading) {m x : ℕ} → judges_all s Ts q ≡ Refused m x → FirstIn s m x Ts ⊎ (AllRight s Ts × (q ≡ Refused m x))
  sections_cases [] q e = inr (none, e)
  sections_cases (T ∷ Ts) q e =
      ⊎_elim
      (λ a. inl (here a))
      (λ b. ⊎_elim (λ a. inl (later b.0 a)) (λ r. inr (also b.0 r.0, r.1)) (sections_cases Ts q b.1))
      (section_cases T (judges_all s Ts q) e)

given_other : {P : Type 0} (q : Dec P) (a : ℕ) {m : ℕ} → given q 0 a ≡ m → 0 < m → (P → ⊥) × (m ≡ a)
unfolding given
given_other (yes p) a e h = absurd (omega arith)
given_other (no n) a e h = (n, sym e)

-- what is judged of a file is its first fault, where what follows is no refusal
first_of : (s : List ℕ) (R : Round) (g : Sections) {m x : ℕ} → judged R s (Accepted g) ≡ Refused m x → FirstFault s R m x
unfolding judged
first_of s R g e =
    let z : (j : ℕ) → 0 + j ≡ j = λ j. omega arith in
    ⊎_elim
    (λ a. in_section a)
    (λ b.
    ⊎_elim
    (λ a. let o = given_other _ _ a.0 a.2 in after b.0 (omega (arith, o.0)) o.1 a.1)
    (λ a.
    ⊎_elim
    (λ r. uneven r.some b.0 (holds _ _ _ a.0 (λ q. omega arith)).0 r.which r.among (λ k l. ap (eleven_of R) (sym (z k)) ∙ r.before k l)
    (ap (eleven_of R) (sym (z r.which)) ∙ r.fault) (r.place ∙ ap (λ (n : ℕ). (bids R).at + count_width + n * bid_width) (z r.which)))
    (λ r. let c : ◌≡◌ {A = ℕ} 0 1 = cc in let f : ⊥ = omega arith in absurd f)
    (scan_cases (eleven_of R) bid_width ((bids R).at + count_width) 0 R.b (Accepted g) a.1))
    (or_cases _ (ends R) _ b.1))
    (sections_cases s (tables R) _ e)

-- a refused file has the first fault that its refusal says
pub refused : (s : List ℕ) {m x : ℕ} → reading s ≡ Refused m x → FirstFault s (round_of s) m x
unfolding reading
refused s e = first_of s (round_of s) (sections_of (round_of s)) e

-- ---- and the first fault is the refusal

or_faults : (n y : ℕ) (q : Reading) {m x : ℕ} → 0 < m → n ≡ m → x ≡ y → or_else n y q ≡ Refused m x
or_faults n y q {m} {x} h e d = let p : Refused n y ≡ Refused m x = cc in refuses n y q (λ z. omega arith) ∙ p

pub or_passes : (n y : ℕ) (q : Reading) → n ≡ 0 → or_else n y q ≡ q
unfolding or_else
or_passes n y q e = rw e

scan_passes : (f : ℕ → ℕ) (w base i k : ℕ) (q : Reading) → ((j : ℕ) → j < k → f (i + j) ≡ 0) → scan f w base i k q ≡ q
unfolding scan
scan_passes f w base i zero q h = refl
scan_passes f w base i (suc k) q h =
    let z : i + 0 ≡ i = omega arith in
    or_passes (f i) _ _ (ap f (sym z) ∙ h 0 (omega arith))
    ∙ scan_passes f w base (i + 1) k q (λ j l. let z : i + suc j ≡ i + 1 + j = omega arith in ap f (sym z) ∙ h (suc j) (omega arith))

scan_faults : (f : ℕ → ℕ) (w base i k : ℕ) (q : Reading) {m x : ℕ} (j : ℕ) → 0 < m → j < k → ((l : ℕ) → l < j → f (i + l) ≡ 0) → f (i + j) ≡ m
    → x ≡ base + (i + j) * w → scan f w base i k q ≡ Refused m x
unfolding scan
scan_faults f w base i zero q j o h b e p = absurd (not-suc-le-zero h)
scan_faults f w base i (suc k) q zero o h b e p =
    let z : i + 0 ≡ i = omega arith in
    or_faults (f i) _ _ o (ap f (sym z) ∙ e) (p ∙ ap (λ (n : ℕ). base + n * w) z)
scan_faults f w base i (suc k) q (suc j) o h b e p =
    let y : i + 0 ≡ i = omega arith in
    let z : (n : ℕ) → i + 1 + n ≡ i + suc n = λ n. omega arith in
    or_passes (f i) _ _ (ap f (sym y) ∙ b 0 (omega arith))
    ∙ scan_faults f w base (i + 1) k q j o (omega arith) (λ l t. ap f (z l) ∙ b (suc l) (omega arith))
    (ap f (z j) ∙ e) (p ∙ ap (λ (n : ℕ). base + n * w) (sym (z j)))

module _ (s : List ℕ) where
  pub section_passes : (T : Table) (q : Reading) → Right s T → judges s T q ≡ q
  unfolding section
  section_passes T q r =
      let z : (j : ℕ) → 0 + j ≡ j = λ j. omega arith in
      or_passes _ _ _ r.count ∙ scan_passes (record_is s T) T.width (T.at + count_width) 0 (says s T) q (λ j l. ap (record_is s T) (z j) ∙ r.each j l)

  section_faults : (T : Table) (q : Reading) {m x : ℕ} → Faulty s T m x → judges s T q ≡ Refused m x
  unfolding section
  section_faults T q (in_count o e p) = or_faults _ _ _ o e p
  section_faults T q (in_record o c i h b e p) =
      let z : (j : ℕ) → 0 + j ≡ j = λ j. omega arith in
      or_passes _ _ _ c
      ∙ scan_faults (record_is s T) T.width (T.at + count_width) 0 (says s T) q i o h (λ k l. ap (record_is s T) (z k) ∙ b k l) (ap (record_is s T) (z i) ∙ e)
      (p ∙ ap (λ (n : ℕ). T.at + count_width + n * T.width) (sym (z i)))

  pub sections_pass : {Ts : List Table} (q : Reading) → AllRight s Ts → judges_all s Ts q ≡ q
  sections_pass q none = refl
  sections_pass q (also {T} {Ts} r rs) = section_passes T (judges_all s Ts q) r ∙ sections_pass q rs

  sections_fault : {m x : ℕ} {Ts : List Table} (q : Reading) → FirstIn s m x Ts → judges_all s Ts q ≡ Refused m x
  sections_fault q (here {T} {Ts} f) = section_faults T (judges_all s Ts q) f
  sections_fault q (later {T} {Ts} r f) = section_passes T (judges_all s Ts q) r ∙ sections_fault q f

fault_is : (s : List ℕ) (R : Round) (q : Reading) {m x : ℕ} → FirstFault s R m x → judged R s q ≡ Refused m x
unfolding judged
fault_is s R q (in_section f) = sections_fault s _ f
fault_is s R q (after a l e p) = sections_pass s _ a ∙ or_faults _ _ _ (omega arith) (given_no _ _ _ (λ h. omega arith) ∙ sym e) p
fault_is s R q (uneven o a l i h b e p) =
    let z : (j : ℕ) → 0 + j ≡ j = λ j. omega arith in
    sections_pass s _ a
    ∙ or_passes _ _ _ (given_yes _ _ _ l)
    ∙ scan_faults (eleven_of R) bid_width ((bids R).at + count_width) 0 R.b q i o h (λ k t. ap (eleven_of R) (z k) ∙ b k t) (ap (eleven_of R) (z i) ∙ e)
    (p ∙ ap (λ (n : ℕ). (bids R).at + count_width + n * bid_width) (sym (z i)))

-- so a file has one first fault at most, and is refused for it
pub faulty : (s : List ℕ) {m x : ℕ} → FirstFault s (round_of s) m x → reading s ≡ Refused m x
unfolding reading
faulty s f = fault_is s (round_of s) _ f

-- ---- some of the sections, and then the rest

module _ (s : List ℕ) where
  -- a refusal among the first sections is the answer, whatever follows them
  pub stops : (Ts : List Table) (g : Sections) (q : Reading) {m x : ℕ} → judges_all s Ts (Accepted g) ≡ Refused m x → judges_all s Ts q ≡ Refused m x
  stops Ts g q e =
      ⊎_elim (λ f. sections_fault s q f) (λ r. let c : ◌≡◌ {A = ℕ} 0 1 = cc in let f : ⊥ = omega arith in absurd f) (sections_cases s Ts (Accepted g) e)

  section_accepted : (T : Table) (q : Reading) → refusal (judges s T q) ≡ 0 → Right s T × (refusal q ≡ 0)
  unfolding section
  section_accepted T q e =
      let p = or_passed _ _ _ e in
      let h = all_passed _ _ _ 0 (says s T) q p.1 in
      let z : (j : ℕ) → 0 + j ≡ j = λ j. omega arith in
      (record { count = p.0; each = λ i l. ap (record_is s T) (sym (z i)) ∙ h.0 i l }, h.1)

  sections_accepted : (Ts : List Table) (q : Reading) → refusal (judges_all s Ts q) ≡ 0 → AllRight s Ts × (refusal q ≡ 0)
  sections_accepted [] q e = (none, e)
  sections_accepted (T ∷ Ts) q e =
      let a = section_accepted T (judges_all s Ts q) e in
      let b = sections_accepted Ts q a.1 in
      (also a.0 b.0, b.1)

  -- where the first sections are accepted, they are right, what follows them is the answer, and so is what was handed on
  pub goes : (Ts : List Table) (g : Sections) {h : Sections} → judges_all s Ts (Accepted g) ≡ Accepted h → AllRight s Ts × (h ≡ g)
  unfolding refusal
  goes Ts g {h} e =
      let a = (sections_accepted Ts (Accepted g) (ap refusal e)).0 in
      let p = sections_pass s (Accepted g) a in
      (a, cc)

-- ---- an accepted file ends with its last record

-- a record with no fault is whole, and what else could be wrong is not
pub no_fault : (recs : List ℕ) (width : ℕ) (fault : ℕ → ℕ) (i : ℕ) → record_fault recs width fault i ≡ 0 → (i * width + width ≤ length recs) × (fault i ≡ 0)
unfolding record_fault
no_fault recs width fault i e = holds _ _ _ e (λ z. omega arith)

module _ (s : List ℕ) where
  -- of a section that is right: its count is in range, and each record is whole and right
  pub count_right : (T : Table) → Right s T → (T.at + count_width ≤ length s) × ((T.low ≤ says s T) × (says s T ≤ T.high))
  unfolding count_fault
  count_right T r =
      let a = holds _ _ _ r.count (λ z. omega arith) in
      let b = holds _ _ _ a.1 (λ z. omega arith) in
      (a.0, b.0)

  pub record_right : (T : Table) → Right s T → (i : ℕ) → i < says s T → (i * T.width + T.width ≤ length T.recs) × (T.fault i ≡ 0)
  record_right T r i l = no_fault T.recs T.width T.fault i (r.each i l)

  -- its records end within the file
  pub ends_within : (T : Table) → Right s T → T.recs ≡ part s (T.at + count_width) (T.at + count_width + says s T * T.width)
      → T.at + count_width + says s T * T.width ≤ length s
  ends_within T r e =
      let w = all_whole (says s T) T.width T.recs (λ i l. (record_right T r i l).0) in
      let a = T.at + count_width in
      omega (arith, (count_right T r).0, ap length e, length-take (a + says s T * T.width - a) (drop a s), length-drop a s)

  last_right : (R : Round) → AllRight s (tables R) → Right s (bids R)
  last_right R (also y (also p (also t (also n (also b none))))) = b

-- the records of its bids are the last, and they are the last bytes
pub ends_there : (s : List ℕ) → IsAccepted s → length s ≡ ends (round_of s)
unfolding reading judged round_of sections
ends_there s e =
    let a = sections_accepted s (tables (round_of s)) _ e in
    let l = (holds _ _ _ (or_passed _ _ _ a.1).0 (λ z. omega arith)).0 in
    omega (arith, ends_within s (bids (round_of s)) (last_right s (round_of s) a.0) refl, l)

-- the sections that an accepted file is answered with are its own, and every record of it satisfies its rule
pub handed_on : (s : List ℕ) {g : Sections} → reading s ≡ Accepted g → (g ≡ sections_of (round_of s)) × Sound (round_of s)
unfolding reading judged refusal
handed_on s {g} e =
    let R = round_of s in
    let a = sections_accepted s (tables R) _ (ap refusal e) in
    let o = or_passed _ _ _ a.1 in
    let l = all_passed (eleven_of R) bid_width ((bids R).at + count_width) 0 R.b (Accepted (sections_of R)) o.1 in
    let p : reading s ≡ Accepted (sections_of R) =
    sections_pass s _ a.0 ∙ or_passes _ _ _ o.0 ∙ scan_passes (eleven_of R) bid_width ((bids R).at + count_width) 0 R.b _ l.0 in
    let q : Accepted g ≡ Accepted (sections_of R) = sym e ∙ p in
    (cc, accepted s (ap refusal e))

-- ---- no two are alike

-- where neither of two different numbers can be the smaller one, they are equal
alike : (i k : ℕ) → (k < i → ⊥) → (i < k → ⊥) → i ≡ k
alike i k f g = omega arith

module _ (R : Round) (S : Sound R) where
  -- applications with the same draw are one
  pub one_draw : (i k : ℕ) → i < R.n → k < R.n → (app_at R.apps i).draw ≡ (app_at R.apps k).draw → i ≡ k
  one_draw i k h l e = alike i k (λ b. (S.app i h).draw k b (sym e)) (λ b. (S.app k l).draw i b e)

  -- bids of one application at the same price are one
  pub one_price : (i k : ℕ) → i < R.b → k < R.b → (bid_at R.bids i).app ≡ (bid_at R.bids k).app
      → (bid_at R.bids i).price ≡ (bid_at R.bids k).price → i ≡ k
  one_price i k h l p e = alike i k (λ b. (S.bid i h).differ k b (sym p, sym e)) (λ b. (S.bid k l).differ i b (p, e))
