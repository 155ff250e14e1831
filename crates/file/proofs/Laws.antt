-- How a section's own answer goes into the reading of the file, and what is known of the sections read so far. Assumes nothing.
use Prim.Native.Nat.{ℕ, ◌+◌, ◌-◌, ◌*◌, ◌≤◌, ◌<◌}
use mathlib.Core.Path.{◌≡◌, refl, sym, ap, ◌∙◌}
use mathlib.Core.List.{List}
use native.Mathlib.Omega.{arith}
use native.Mathlib.Nat.{mul-le-mul}
use lib.ListN.{length}
use Rattle.rules.specs.Names.{ends_early, bytes_after, most_years, most_pots, most_techs, most_apps, most_bids, count_width, year_width, pot_width, tech_width, app_width}
use Rattle.rules.specs.Names.{bid_width}
use Rattle.rules.specs.Bytes.{le, part}
use Rattle.rules.specs.File.{round_of, sections, sections_of, pots_told, gained_told, app_at, pots_at, techs_at, apps_at, bids_at, end_at}
use Rattle.rules.specs.Refusals.{scan, plain, count_fault, section, seven_of, eight_of, nine_of, bid_fault, eleven_of, judged, reading}
use Rattle.rules.specs.declared.Sections.{Sections}
use Rattle.rules.specs.Reading.{Reading, Accepted, Refused}
use Rattle.laws_reading.specs.Walk.{given_yes, given_no, refuses}
use Rattle.laws_reading.specs.Reading.{holds, GainedTold, gained_told_lem, YearRight, year_right, app_right, deliveries_most, counts}
use Rattle.laws_reading.specs.Fault.{Table, years, pots, techs, apps, bids, tables, says, count_is, record_is, judges, judges_all, Right, AllRight, none, also}
use Rattle.laws_reading.specs.Fault.{after, goes, stops, faulty, or_passes, sections_pass, count_right, record_right, ends_within}
use Rattle.fields.proofs.Le.{part_length}
use Rattle.layout.specs.Layout.{years_in}
use Rattle.records.specs.Records.{years_of, pots_of, techs_of, apps_of}
use Rattle.bids.specs.Bids.{TablesRight, bids_of, lowest_of}
use Rattle.file.specs.Reads.{range_fault, ends, with_pots, with_techs, with_apps, with_bids, to_years, to_pots, to_techs, to_apps, after_years, after_pots}
use Rattle.file.specs.Reads.{after_techs, after_apps, read_years, read_pots, read_techs, read_apps, read_bids}

-- ---- a section by its count and its records

-- the file ends before the end of the count at `at`, or so many records as it tells are judged
module _ (told : ℕ → ℕ) (s : List ℕ) (at low high : ℕ) where
  pub count_short : length s < at + count_width → ends_early ≡ count_fault told s at low high
  unfolding count_fault
  count_short h = sym (given_no _ _ _ (λ l. omega arith))

  pub count_whole : at + count_width ≤ length s → {n r : ℕ} → n ≡ told (le count_width s at) → r ≡ range_fault n low high → r ≡ count_fault told s at low high
  unfolding count_fault range_fault
  count_whole h e r = r ∙ ap (λ (n : ℕ). range_fault n low high) e ∙ sym (given_yes _ _ _ h)

-- the count at `at` was judged and has no fault
pub counted : (told : ℕ → ℕ) (s : List ℕ) (at low high : ℕ) {f : ℕ} → f ≡ count_fault told s at low high → f ≡ 0
    → (at + count_width ≤ length s) × ((low ≤ told (le count_width s at)) × (told (le count_width s at) ≤ high))
unfolding count_fault
counted told s at low high e z =
    let a = holds _ _ _ (sym e ∙ z) (λ q. omega arith) in
    let b = holds _ _ _ a.1 (λ q. omega arith) in
    (a.0, b.0)

-- the bytes gained that a count was found to tell
pub gained_found : (count : ℕ) {c : ℕ} → c ≡ gained_told count → GainedTold c
gained_found count e = rw e (gained_told_lem count)

-- n records, no more than a and none wider than b
pub few_bytes : (a b n w : ℕ) → n ≤ a → w ≤ b → n * w ≤ a * b
few_bytes a b n w h l = mul-le-mul h l

-- a part that lies within the file is as long as it says
pub whole : (s : List ℕ) (a e : ℕ) {l : List ℕ} → l ≡ part s a e → a ≤ e → e ≤ length s → length l ≡ e - a
whole s a e q h k = ap length q ∙ part_length s a e h k

-- A section T after those that are right. The sections so far are g, and are to be h; `at` and `width` say where T's count stands, and how wide its records are
module _ (s : List ℕ) {Ts : List Table} (a : AllRight s Ts) (T : Table) (q : Reading) (at : Sections → ℕ) (width : Sections → (count : ℕ) → ℕ)
    {g h : Sections} (i : g ≡ h) (here : at h ≡ T.at)
    {f : ℕ} (e : f ≡ count_fault T.told s (at g) T.low T.high) where
  fault_is : f ≡ count_is s T
  fault_is =
      e
      ∙ ap (λ (x : Sections). count_fault T.told s (at x) T.low T.high) i
      ∙ ap (λ (x : ℕ). count_fault T.told s x T.low T.high) here

  -- its count is refused
  pub next_refused : (f ≡ 0 → ⊥) → Refused f (at g) ≡ judges_all s Ts (judges s T q)
  unfolding section
  next_refused z =
      (λ j. Refused (fault_is j) ((ap at i ∙ here) j))
      ∙ sym (refuses (count_is s T) T.at _ (λ n. z (fault_is ∙ n)))
      ∙ sym (sections_pass s (judges s T q) a)

  -- where the records that a count tells end
  abbrev ends_of : (g : Sections) (count : ℕ) → ℕ
  ends_of g count = ends (at g) (T.told count) (width g count)

  -- its count is accepted, and F is what the records that it tells answer, in the part of the file that they occupy
  pub next_read : (F : Sections → (count next : ℕ) → List ℕ → Reading)
      → F h (le count_width s (at h)) (ends_of h (le count_width s (at h))) (part s (at h + count_width) (ends_of h (le count_width s (at h))))
      ≡ scan (record_is s T) T.width (T.at + count_width) 0 (says s T) q
      → f ≡ 0 → {count next : ℕ} {l : List ℕ} {r : Reading} → count ≡ le count_width s (at g) → next ≡ ends_of g count
      → l ≡ part s (at g + count_width) next → r ≡ F g count next l
      → r ≡ judges_all s Ts (judges s T q)
  unfolding section
  next_read F same z p m l r =
      let p' = p ∙ ap (λ (x : Sections). le count_width s (at x)) i in
      let m' = m ∙ (λ j. ends_of (i j) (p' j)) in
      let c = l ∙ (λ j. part s (at (i j) + count_width) (m' j)) in
      let no : count_is s T ≡ 0 = sym fault_is ∙ z in
      r ∙ (λ j. F (i j) (p' j) (m' j) (c j)) ∙ same ∙ sym (or_passes _ T.at _ no) ∙ sym (sections_pass s (judges s T q) a)

-- ---- what is known of the first sections, where they are right

-- of a section whose records are the part of the file that its count says: its count is not above the highest, and the records end within the file
known : (s : List ℕ) (T : Table) → Right s T → T.recs ≡ part s (T.at + count_width) (T.at + count_width + says s T * T.width)
    → (says s T ≤ T.high) × (T.at + count_width + says s T * T.width ≤ length s)
known s T r e = ((count_right s T r).1.1, ends_within s T r e)

module _ (s : List ℕ) where
  years_known : Right s (years (round_of s)) → ((round_of s).y ≤ most_years) × (pots_at (round_of s).y ≤ length s)
  unfolding round_of sections
  years_known r = known s (years (round_of s)) r refl

  deliveries_known : Right s (years (round_of s)) → (round_of s).d ≤ (round_of s).y
  deliveries_known r =
      let R = round_of s in
      let C = counts s in
      let right : (i : ℕ) → i < R.y → YearRight R.years i = λ i l. year_right R.years i (record_right s (years R) r i (omega (arith, C.y))).1 in
      omega (arith, C.d, deliveries_most R.years R.y right)

  pots_known : Right s (pots (round_of s)) → ((round_of s).p ≤ most_pots) × (techs_at (round_of s).y (round_of s).c (round_of s).p ≤ length s)
  unfolding round_of sections
  pots_known r = known s (pots (round_of s)) r refl

  techs_known : Right s (techs (round_of s)) → ((round_of s).t ≤ most_techs) × (apps_at (round_of s).y (round_of s).c (round_of s).p (round_of s).t ≤ length s)
  unfolding round_of sections
  techs_known r = known s (techs (round_of s)) r refl

  apps_known : Right s (apps (round_of s))
      → ((round_of s).n ≤ most_apps) × (bids_at (round_of s).y (round_of s).c (round_of s).p (round_of s).t (round_of s).n ≤ length s)
  unfolding round_of sections
  apps_known r = known s (apps (round_of s)) r refl

  bids_known : Right s (bids (round_of s))
      → ((round_of s).b ≤ most_bids) × (end_at (round_of s).y (round_of s).c (round_of s).p (round_of s).t (round_of s).n (round_of s).b ≤ length s)
  unfolding round_of sections
  bids_known r = known s (bids (round_of s)) r refl

-- ---- the years

module _ (s : List ℕ) {f : ℕ} (e : f ≡ count_fault plain s 0 1 most_years) where
  pub years_refused : (f ≡ 0 → ⊥) → Refused f 0 ≡ read_years s
  unfolding read_years
  years_refused z = next_refused s none (years (round_of s)) (Accepted (after_years s)) (λ x. 0) (λ x n. year_width) {g = after_years s} refl refl e z

  pub years_read : f ≡ 0 → {n : ℕ} {l : List ℕ} {r : Reading} → n ≡ le count_width s 0 → l ≡ part s count_width (count_width + n * year_width)
      → r ≡ years_of l n count_width → r ≡ read_years s
  unfolding read_years years_of round_of sections
  years_read z p q r =
      next_read s none (years (round_of s)) (Accepted (after_years s)) (λ x. 0) (λ x n. year_width) {g = after_years s} refl refl e
      (λ x n next l. years_of l n count_width) refl z p refl q r

-- ---- the pots, after the years

-- what is known of the sections so far
pub record Facts1 (s : List ℕ) (g : Sections) : Type 0 where
  pub most : g.years ≤ most_years
  pub within : g.pots_at ≤ length s

module _ (s : List ℕ) {g : Sections} (h : read_years s ≡ Accepted g) where
  pub facts1 : Facts1 s g
  unfolding read_years
  facts1 = let a = goes s (to_years (round_of s)) (after_years s) h in rw a.1 (known_of a.0)
    where
      known_of : AllRight s (to_years (round_of s)) → Facts1 s (after_years s)
      known_of (also y none) = let k = years_known s y in record { most = k.0; within = k.1 }

  module _ {f : ℕ} (e : f ≡ count_fault pots_told s g.pots_at 1 most_pots) where
    pub pots_refused : (f ≡ 0 → ⊥) → Refused f g.pots_at ≡ read_pots s
    unfolding read_years read_pots
    pots_refused z =
        let a = goes s (to_years (round_of s)) (after_years s) h in
        next_refused s a.0 (pots (round_of s)) (Accepted (after_pots s)) (λ x. x.pots_at) (λ x n. pot_width x.years (gained_told n)) a.1 refl e z

    pub pots_read : f ≡ 0 → {count c n m : ℕ} {l : List ℕ} {r : Reading} → count ≡ le count_width s g.pots_at → c ≡ gained_told count → n ≡ pots_told count
        → m ≡ n * pot_width g.years c
        → l ≡ part s (g.pots_at + count_width) (g.pots_at + count_width + m)
        → r ≡ pots_of l (g.pots_at + count_width) (with_pots g c n (g.pots_at + count_width + m)) → r ≡ read_pots s
    unfolding read_years read_pots pots_of round_of sections
    pots_read z {m = m} {l = l} p u v w q r =
        let a = goes s (to_years (round_of s)) (after_years s) h in
        let start = g.pots_at + count_width in
        next_read s a.0 (pots (round_of s)) (Accepted (after_pots s)) (λ x. x.pots_at) (λ x n. pot_width x.years (gained_told n)) a.1 refl e
        (λ x n next l. pots_of l (x.pots_at + count_width) (with_pots x (gained_told n) (pots_told n) next)) refl z p
        (ap (λ (x : ℕ). start + x) w ∙ (λ j. start + v j * pot_width g.years (u j))) q
        (r ∙ (λ j. pots_of l start (with_pots g (u j) (v j) (start + m))))

-- ---- the technologies, after the pots

-- what is known of the sections so far
pub record Facts2 (s : List ℕ) (g : Sections) : Type 0 where
  pub most : g.years ≤ most_years
  pub within : g.technologies_at ≤ length s

module _ (s : List ℕ) {g : Sections} (h : read_pots s ≡ Accepted g) where
  pub facts2 : Facts2 s g
  unfolding read_pots
  facts2 = let a = goes s (to_pots (round_of s)) (after_pots s) h in rw a.1 (known_of a.0)
    where
      known_of : AllRight s (to_pots (round_of s)) → Facts2 s (after_pots s)
      known_of (also y (also p none)) = record { most = (years_known s y).0; within = (pots_known s p).1 }

  module _ {f : ℕ} (e : f ≡ count_fault plain s g.technologies_at 1 most_techs) where
    pub techs_refused : (f ≡ 0 → ⊥) → Refused f g.technologies_at ≡ read_techs s
    unfolding read_pots read_techs
    techs_refused z =
        let a = goes s (to_pots (round_of s)) (after_pots s) h in
        next_refused s a.0 (techs (round_of s)) (Accepted (after_techs s)) (λ x. x.technologies_at) (λ x n. tech_width x.years) a.1 refl e z

    pub techs_read : f ≡ 0 → {n m : ℕ} {l : List ℕ} {r : Reading} → n ≡ le count_width s g.technologies_at → m ≡ n * tech_width g.years
        → l ≡ part s (g.technologies_at + count_width) (g.technologies_at + count_width + m)
        → r ≡ techs_of l (g.technologies_at + count_width) (with_techs g n (g.technologies_at + count_width + m)) → r ≡ read_techs s
    unfolding read_pots read_techs techs_of round_of sections
    techs_read z p m q r =
        let a = goes s (to_pots (round_of s)) (after_pots s) h in
        next_read s a.0 (techs (round_of s)) (Accepted (after_techs s)) (λ x. x.technologies_at) (λ x n. tech_width x.years) a.1 refl e
        (λ x n next l. techs_of l (x.technologies_at + count_width) (with_techs x n next)) refl z p
        (ap (λ (x : ℕ). g.technologies_at + count_width + x) m) q r

-- ---- the applications, after the technologies

-- what is known of the sections so far
pub record Facts3 (s : List ℕ) (g : Sections) : Type 0 where
  pub days : g.deliveries * year_width ≤ length (years_in s g)
  pub starts : count_width ≤ g.pots_at
  pub ended : g.pots_at ≤ length s
  pub within : g.applications_at ≤ length s

-- the years' part is as long as the years
years_long : (s : List ℕ) → Right s (years (round_of s)) → (round_of s).y * year_width ≤ length (part s count_width (pots_at (round_of s).y))
years_long s r = omega (arith, part_length s count_width (pots_at (round_of s).y) (omega arith) (years_known s r).1)

module _ (s : List ℕ) {g : Sections} (h : read_techs s ≡ Accepted g) where
  pub facts3 : Facts3 s g
  unfolding read_techs
  facts3 = let a = goes s (to_techs (round_of s)) (after_techs s) h in rw a.1 (known_of a.0)
    where
      known_of : AllRight s (to_techs (round_of s)) → Facts3 s (after_techs s)
      known_of (also y (also p (also t none))) = record {
        days = omega (arith, years_long s y, deliveries_known s y);
        starts = omega arith;
        ended = (years_known s y).1;
        within = (techs_known s t).1;
      }

  module _ {f : ℕ} (e : f ≡ count_fault plain s g.applications_at 0 most_apps) where
    pub apps_refused : (f ≡ 0 → ⊥) → Refused f g.applications_at ≡ read_apps s
    unfolding read_techs read_apps
    apps_refused z =
        let a = goes s (to_techs (round_of s)) (after_techs s) h in
        next_refused s a.0 (apps (round_of s)) (Accepted (after_apps s)) (λ x. x.applications_at) (λ x n. app_width) a.1 refl e z

    pub apps_read : f ≡ 0 → {n : ℕ} {years l : List ℕ} {r : Reading} → n ≡ le count_width s g.applications_at
        → years ≡ years_in s g → l ≡ part s (g.applications_at + count_width) (ends g.applications_at n app_width)
        → r ≡ apps_of years l (g.applications_at + count_width) (with_apps g n (ends g.applications_at n app_width)) → r ≡ read_apps s
    unfolding read_techs read_apps apps_of round_of sections
    apps_read z {n} {l = l} p y q r =
        let a = goes s (to_techs (round_of s)) (after_techs s) h in
        next_read s a.0 (apps (round_of s)) (Accepted (after_apps s)) (λ x. x.applications_at) (λ x n. app_width) a.1 refl e
        (λ x n next l. apps_of (years_in s x) l (x.applications_at + count_width) (with_apps x n next)) refl z p refl q
        (r ∙ ap (λ (x : List ℕ). apps_of x l (g.applications_at + count_width) (with_apps g n (ends g.applications_at n app_width))) y)

-- ---- the bids, after the applications

module _ (s : List ℕ) where
  techs_long : Right s (techs (round_of s))
      → (round_of s).t * tech_width (round_of s).y
      ≤ length (part s (techs_at (round_of s).y (round_of s).c (round_of s).p + count_width) (apps_at (round_of s).y (round_of s).c (round_of s).p (round_of s).t))
  techs_long r =
      let R = round_of s in
      omega (arith, part_length s (techs_at R.y R.c R.p + count_width) (apps_at R.y R.c R.p R.t) (omega arith) (techs_known s r).1)

  apps_long : Right s (apps (round_of s))
      → let R = round_of s in
      R.n * app_width ≤ length (part s (apps_at R.y R.c R.p R.t + count_width) (bids_at R.y R.c R.p R.t R.n))
  apps_long r =
      let R = round_of s in
      let at = apps_at R.y R.c R.p R.t in
      omega (arith, part_length s (at + count_width) (bids_at R.y R.c R.p R.t R.n) (omega arith) (apps_known s r).1)

  apps_tech : Right s (apps (round_of s)) → (a : ℕ) → a < (round_of s).n
      → let R = round_of s in
      (app_at (part s (apps_at R.y R.c R.p R.t + count_width) (bids_at R.y R.c R.p R.t R.n)) a).tech < R.t
  unfolding round_of sections
  apps_tech r a l = (app_right _ _ _ _ a (record_right s (apps (round_of s)) r a l).1).tech

module _ (s : List ℕ) {g : Sections} (h : read_apps s ≡ Accepted g) where
  -- the bids can be held to the sections so far
  pub tables_right : (n : ℕ) → TablesRight s (with_bids g n)
  unfolding read_apps
  tables_right m = let a = goes s (to_apps (round_of s)) (after_apps s) h in rw a.1 (known_of a.0)
    where
      known_of : AllRight s (to_apps (round_of s)) → TablesRight s (with_bids (after_apps s) m)
      known_of (also y (also p (also t (also n none)))) = record {
        years_start = omega arith;
        years_end = (years_known s y).1;
        techs_start = omega arith;
        techs_end = (techs_known s t).1;
        apps_start = omega arith;
        apps_end = (apps_known s n).1;
        few = deliveries_known s y;
        most = (years_known s y).0;
        years_whole = years_long s y;
        techs_whole = techs_long s t;
        apps_whole = apps_long s n;
        tech = apps_tech s n;
      }

  module _ {f : ℕ} (e : f ≡ count_fault plain s g.bids_at 0 most_bids) where
    pub bids_refused : (f ≡ 0 → ⊥) → Refused f g.bids_at ≡ read_bids s
    unfolding read_apps read_bids
    bids_refused z =
        let a = goes s (to_apps (round_of s)) (after_apps s) h in
        next_refused s a.0 (bids (round_of s)) (Accepted (sections_of (round_of s))) (λ x. x.bids_at) (λ x n. bid_width) a.1 refl e z

    pub bids_read : f ≡ 0 → {n : ℕ} {l : List ℕ} {r : Reading} → n ≡ le count_width s g.bids_at
        → l ≡ part s (g.bids_at + count_width) (ends g.bids_at n bid_width) → r ≡ bids_of s l (g.bids_at + count_width) (with_bids g n) → r ≡ read_bids s
    unfolding read_apps read_bids bids_of bid_fault seven_of eight_of nine_of sections_of round_of sections
    bids_read z p q r =
        let a = goes s (to_apps (round_of s)) (after_apps s) h in
        next_read s a.0 (bids (round_of s)) (Accepted (sections_of (round_of s))) (λ x. x.bids_at) (λ x n. bid_width) a.1 refl e
        (λ x n next l. bids_of s l (x.bids_at + count_width) (with_bids x n)) refl z p refl q r

-- ---- after the last section

pub record Facts5 (s : List ℕ) (g : Sections) : Type 0 where
  pub few : g.bids ≤ most_bids
  pub within : g.bids_at + count_width + g.bids * bid_width ≤ length s

module _ (s : List ℕ) {g : Sections} (h : read_bids s ≡ Accepted g) where
  pub facts5 : Facts5 s g
  unfolding read_bids sections_of
  facts5 = let a = goes s (tables (round_of s)) (sections_of (round_of s)) h in rw a.1 (known_of a.0)
    where
      known_of : AllRight s (tables (round_of s)) → Facts5 s (sections_of (round_of s))
      known_of (also y (also p (also t (also n (also b none))))) = let k = bids_known s b in record { few = k.0; within = k.1 }

  -- 10: there are bytes after the last record
  pub bytes_after_lem : g.bids_at + count_width + g.bids * bid_width < length s → Refused bytes_after (g.bids_at + count_width + g.bids * bid_width) ≡ reading s
  unfolding read_bids sections_of
  bytes_after_lem l =
      let a = goes s (tables (round_of s)) (sections_of (round_of s)) h in
      let e = ap (λ (x : Sections). x.bids_at + count_width + x.bids * bid_width) a.1 in
      sym (faulty s (after a.0 (omega arith) refl e))

  -- 11: there are none, and the lowest bids are asked
  pub lowest_read : {l : List ℕ} {r : Reading} → length s ≤ g.bids_at + count_width + g.bids * bid_width
      → l ≡ part s (g.bids_at + count_width) (g.bids_at + count_width + g.bids * bid_width)
      → r ≡ lowest_of l (g.bids_at + count_width) g → r ≡ reading s
  unfolding read_bids reading judged lowest_of eleven_of round_of sections sections_of
  lowest_read l q r =
      let a = goes s (tables (round_of s)) (sections_of (round_of s)) h in
      let i = a.1 in
      let e = ap (λ (x : Sections). x.bids_at + count_width + x.bids * bid_width) i in
      r
      ∙ ap (λ (x : List ℕ). lowest_of x (g.bids_at + count_width) g) q
      ∙ (λ j. lowest_of (part s ((i j).bids_at + count_width) ((i j).bids_at + count_width + (i j).bids * bid_width)) ((i j).bids_at + count_width) (i j))
      ∙ sym (or_passes _ _ _ (given_yes _ _ _ (omega arith)))
      ∙ sym (sections_pass s _ a.0)

-- ---- a refusal in a section is the file's

module _ (s : List ℕ) {m x : ℕ} where
  pub years_stop : Refused m x ≡ read_years s → Refused m x ≡ reading s
  unfolding read_years reading judged
  years_stop p = sym (stops s (to_years (round_of s)) (after_years s) _ (sym p))

  pub pots_stop : Refused m x ≡ read_pots s → Refused m x ≡ reading s
  unfolding read_pots reading judged
  pots_stop p = sym (stops s (to_pots (round_of s)) (after_pots s) _ (sym p))

  pub techs_stop : Refused m x ≡ read_techs s → Refused m x ≡ reading s
  unfolding read_techs reading judged
  techs_stop p = sym (stops s (to_techs (round_of s)) (after_techs s) _ (sym p))

  pub apps_stop : Refused m x ≡ read_apps s → Refused m x ≡ reading s
  unfolding read_apps reading judged
  apps_stop p = sym (stops s (to_apps (round_of s)) (after_apps s) _ (sym p))

  pub bids_stop : Refused m x ≡ read_bids s → Refused m x ≡ reading s
  unfolding read_bids reading judged
  bids_stop p = sym (stops s (tables (round_of s)) (sections_of (round_of s)) _ (sym p))
