-- What a field is that was judged where it stands: the value that export writes so, which its row accepts.
use Rattle.std.specs.Prelude.{◌≡◌, refl, Bool, ◌&&◌, ◌||◌, List, [], ◌∷◌, ◌++◌, ℕ, zero, suc, ◌+◌, ◌-◌, ◌≤◌, ◌<◌, eqb, leb, ltb}
use Rattle.std.specs.Prelude.{ℤ, pos, negsuc, length, take, drop, get_or}
use Rattle.std.proofs.Math.Path.{sym, ap}
use Rattle.std.proofs.Common.{◌∙◌, append-nil, add-one, arith, eqb-true, ne_eqb, le-leb, lt-ltb, le-ltb, ltb-false}
use Rattle.std.proofs.Common.{length-drop, length-take-le}
use Rattle.std.proofs.Math.Bool.{true, false, cond}
use Rattle.std.proofs.lemmas.Bool.{eqb-false}
use Rattle.std.proofs.Math.Seq.{get_or-append_seam}
use Rattle.std.specs.Int.Signed.{le_z}
use Rattle.below.specs.Below.{holds_not, and_true, and_left, and_right}
use Rattle.cells.specs.rule.Cell.{count_of}
use Rattle.layout.specs.declared.Row.{Row}
use Rattle.layout.specs.declared.Format.{Format}
use Rattle.layout.specs.declared.Kind.{Kind}
use Rattle.layout.specs.declared.Kind.TheVariants.{Single, Multiple, Quantity, Character, Logical}
use Rattle.layout.specs.declared.Spread.TheVariants.{Bits, Fields}
use Rattle.fields.specs.Facts.{RowFacts}
use Rattle.fields.specs.rule.Legal.{in_range, legal}
use Rattle.fields.specs.rule.Field.{Value, missing, number, members, text, truth, holds, all_legal, set_fits, all_plain, text_fits}
use Rattle.fields.specs.rule.Row.{fits, not_legal, too_many, legal_fit, fits_by, fit_of}
use Rattle.fieldlaws.specs.RisingLaws.{Rising, none, skip, keep, rising_empty, fits_of}
use Rattle.lines.specs.rule.Text.{numeral}
use Rattle.commas.specs.rule.Csv.{is_special, holds_special}
use Rattle.csv_fields.specs.Page.{part, part_none, part_more, part_rest, Bared, bared_none, bared_to, BareTo, Bounded}
use Rattle.csv_fields.proofs.Page.{bared_more}
use Rattle.value_fields.specs.rule.Values.{export_number, codes_behind, set_text, export_value}
use Rattle.widths.specs.rule.Width.{decimals_of}
use Rattle.value_fields.specs.Plain.{truth_plain}
use Rattle.value_fields.proofs.Plain.{number_plain, set_plain}
use Rattle.number_fields.specs.Reads.{Reads, reads_none, reads_byte, reads_join, reads_as, reads_part, CodeAt}
use Rattle.field_values.specs.rule.Value.{whole}
use Rattle.field_values.specs.rule.Read.{value_from}
use Rattle.field_values.specs.Guess.{code_text}
use Rattle.field_values.specs.Exactly.{value_exactly}

-- a comma or a CR stands at a place
pub record StopsAt (d : List ℕ) (i : ℕ) : Type 0 where
  pub within : i < length d
  pub special : is_special (get_or d i 0) ≡ true
  pub unquoted : get_or d i 0 ≡ 34 → ⊥

pub stops_comma : (d : List ℕ) (i : ℕ) → i < length d → get_or d i 0 ≡ 44 → StopsAt d i
unfolding is_special
stops_comma d i h e = record { within = h; special = rw e; unquoted = λ q. omega arith }

pub stops_cr : (d : List ℕ) (i : ℕ) → i < length d → get_or d i 0 ≡ 13 → StopsAt d i
unfolding is_special
stops_cr d i h e = record { within = h; special = rw e; unquoted = λ q. omega arith }

-- ---- A VALUE OF THE ROW STANDS from one place to another, as export writes it, and something stops it
pub record Standing (t : List ℤ) (v : ℕ) (r : Row) (d : List ℕ) (at to : ℕ) : Type 0 where
  pub value : Value
  pub accepted : fit_of t v r value ≡ fits
  pub reads : Reads d at (export_value (decimals_of r.kind) value) to
  pub plain : holds_special (export_value (decimals_of r.kind) value) ≡ false
  pub stop : StopsAt d to

-- behind what stops it; or nothing is said
abbrev pub JudgedAt : List ℤ → ℕ → Row → List ℕ → ℕ → ℕ → Type 0
JudgedAt t v r d at e = (e ≡ 0 → ⊥) → Standing t v r d at (e - 1)

pub judged_none : (t : List ℤ) (v : ℕ) (r : Row) (d : List ℕ) (at : ℕ) → JudgedAt t v r d at 0
judged_none t v r d at z = absurd (z refl)

pub judged_some : {t : List ℤ} {v : ℕ} {r : Row} {d : List ℕ} {at to : ℕ} → Standing t v r d at to → JudgedAt t v r d at (to + 1)
judged_some {t} {v} {r} {d} {at} {to} s z = let e : to ≡ to + 1 - 1 = omega arith in rw e at s

module _ {t : List ℤ} {v : ℕ} {r : Row} {d : List ℕ} {at to : ℕ} (s : Standing t v r d at to) where
  pub standing_bounded : Bounded d at to
  standing_bounded = record {
    on = s.reads.on;
    within = s.stop.within;
    plain = rw (reads_part s.reads) at s.plain;
    stops = s.stop.special;
    unquoted = s.stop.unquoted;
  }

  pub standing_value : {len : ℕ} → RowFacts t v len r → value_from t v r (take (to - at) (drop at d)) ≡ holds s.value
  standing_value g =
      (value_exactly g (take (to - at) (drop at d)) s.value).1
      (record { accepted = s.accepted; written = whole (reads_part s.reads) })

-- ---- a text that stands bare: no comma, no quote, no byte below 32
abbrev pub ends_text : ℕ → Bool
ends_text b = eqb b 44 || (eqb b 34 || ltb b 32)

neither : (p q : Bool) → (p || q) ≡ false → (p ≡ false) × (q ≡ false)
neither true q e = holds_not refl e
neither false q e = (refl, e)

ends_none : (b : ℕ) → ends_text b ≡ false → (is_special b ≡ false) × (32 ≤ b)
unfolding is_special
ends_none b e =
    let x = neither (eqb b 44) (eqb b 34 || ltb b 32) e in
    let y = neither (eqb b 34) (ltb b 32) x.1 in
    let l = ltb-false b 32 y.1 in
    (rw (x.0, y.0, ne_eqb b 13 (λ z. omega arith), ne_eqb b 10 (λ z. omega arith)), l)

plain_more : (s : List ℕ) (b : ℕ) → all_plain s ≡ true → 32 ≤ b → all_plain (s ++ (b ∷ [])) ≡ true
unfolding all_plain
plain_more [] b e h = rw (le-leb 32 b h)
plain_more (x ∷ s) b e h = and_true (leb 32 x) (all_plain (s ++ (b ∷ []))) (and_left (leb 32 x) (all_plain s) e)
    (plain_more s b (and_right (leb 32 x) (all_plain s) e) h)

pub record TextTo (d : List ℕ) (at to : ℕ) : Type 0 where
  pub bared : Bared d at to
  pub plain : all_plain (part d at to) ≡ true

pub text_none : (d : List ℕ) (at : ℕ) → at ≤ length d → TextTo d at at
unfolding all_plain
text_none d at h = record { bared = bared_none d at h; plain = rw (part_none d at) }

pub text_more : {d : List ℕ} {at to : ℕ} → TextTo d at to → to < length d → ends_text (get_or d to 0) ≡ false → TextTo d at (to + 1)
text_more {d} {at} {to} g h e =
    let x = ends_none (get_or d to 0) e in
    record {
      bared = bared_more g.bared h x.0;
      plain = rw (part_more d at to g.bared.on h) (plain_more (part d at to) (get_or d to 0) g.plain x.1);
    }

text_fits_lem : (w : ℕ) (d : List ℕ) (at to : ℕ) → to ≤ length d → at < to → to - at ≤ w → all_plain (part d at to) ≡ true
    → 32 < get_or d (to - 1) 0 → text_fits w (part d at to) ≡ true
unfolding text_fits
text_fits_lem w d at to h l f p e =
    let z : to - 1 + 1 ≡ to = omega arith in
    let n : length (part d at to) ≡ to - at = length-take-le (to - at) (drop at d) (omega (arith, length-drop at d)) in
    let m : length (part d at (to - 1)) ≡ to - 1 - at = length-take-le (to - 1 - at) (drop at d) (omega (arith, length-drop at d)) in
    let s : part d at to ≡ part d at (to - 1) ++ (get_or d (to - 1) 0 ∷ []) =
    ap (part d at) (sym z) ∙ part_more d at (to - 1) (omega arith) (omega arith) in
    let i : to - at - 1 ≡ length (part d at (to - 1)) = omega (arith, m) in
    let g : get_or (part d at to) (to - at - 1) 0 ≡ get_or d (to - 1) 0 =
    ap (λ (x : List ℕ). get_or x (to - at - 1) 0) s ∙ rw i (get_or-append_seam (part d at (to - 1)) (get_or d (to - 1) 0) [] 0) in
    rw (n, lt-ltb 0 (to - at) (omega arith), le-leb (to - at) w f, p, g, lt-ltb 32 (get_or d (to - 1) 0) e)

-- ---- by the row's kind
module _ (t : List ℤ) (v : ℕ) (r : Row) {d : List ℕ} {at to : ℕ} (stop : StopsAt d to) where
  pub missing_stands : at ≡ to → Standing t v r d at to
  unfolding fits_by export_value holds_special
  missing_stands e =
      let h = stop.within in
      record { value = missing; accepted = refl; reads = rw e (reads_none d to (omega arith)); plain = refl; stop = stop }

  pub code_stands : (n : ℕ) (z : ℤ) → r.kind ≡ Single → z ≡ pos n → legal t v r z ≡ true → Reads d at (numeral n) to
      → Standing t v r d at to
  unfolding fits_by legal_fit export_value decimals_of
  code_stands n z k e l a = record {
    value = number (pos n);
    accepted = ap (λ (x : Kind). fits_by x t v r (number (pos n))) k ∙ ap legal_fit (ap (legal t v r) (sym e) ∙ l);
    reads = rw k (reads_as (sym (code_text n)) a);
    plain = number_plain (decimals_of r.kind) (pos n);
    stop = stop;
  }

  pub amount_stands : {q : Format} (z : ℤ) → r.kind ≡ Quantity q → legal t v r z ≡ true → Reads d at (export_number q.decimals z) to
      → Standing t v r d at to
  unfolding fits_by legal_fit export_value decimals_of
  amount_stands {q} z k l a = record {
    value = number z;
    accepted = ap (λ (x : Kind). fits_by x t v r (number z)) k ∙ ap legal_fit l;
    reads = rw k a;
    plain = number_plain (decimals_of r.kind) z;
    stop = stop;
  }

  pub bits_stand : (ms : List ℤ) → r.kind ≡ Multiple Bits → set_fits (legal t v r) ms ≡ true → Reads d at (set_text ms) to
      → Standing t v r d at to
  unfolding fits_by legal_fit export_value
  bits_stand ms k l a = record {
    value = members ms;
    accepted = ap (λ (x : Kind). fits_by x t v r (members ms)) k ∙ ap legal_fit l;
    reads = a;
    plain = set_plain ms;
    stop = stop;
  }

  pub spread_stands : {n b : ℕ} (ms : List ℤ) → r.kind ≡ Multiple (Fields n b) → set_fits (legal t v r) ms ≡ true → length ms ≤ n
      → Reads d at (set_text ms) to → Standing t v r d at to
  unfolding fits_by export_value
  spread_stands {n} {b} ms k l h a =
      record {
        value = members ms;
        accepted = ap (λ (x : Kind). fits_by x t v r (members ms)) k
            ∙ room (set_fits (legal t v r) ms) (ltb n (length ms)) l (le-ltb n (length ms) h);
        reads = a;
        plain = set_plain ms;
        stop = stop;
      }
    where
      room : (p q : Bool) → p ≡ true → q ≡ false → cond p (cond q too_many fits) not_legal ≡ fits
      room p q e f = rw (e, f)

  pub text_stands : BareTo d at to → fit_of t v r (text (part d at to)) ≡ fits → Standing t v r d at to
  unfolding export_value
  text_stands b l = record {
    value = text (part d at to);
    accepted = l;
    reads = record { on = b.on; inside = b.within; is = sym (part_rest d at to b.on) };
    plain = b.plain;
    stop = stop;
  }

  pub text_read : r.kind ≡ Character → TextTo d at to → at < to → to - at ≤ r.width → 32 < get_or d (to - 1) 0 → Standing t v r d at to
  unfolding fits_by legal_fit
  text_read k b l w e =
      text_stands (bared_to b.bared (λ h. stop.special))
      (ap (λ (x : Kind). fits_by x t v r (text (part d at to))) k
      ∙ ap legal_fit (text_fits_lem r.width d at to b.bared.within l w b.plain e))

  pub truth_stands : (b : Bool) → r.kind ≡ Logical → Reads d at (cond b 49 48 ∷ []) to → Standing t v r d at to
  unfolding fits_by export_value
  truth_stands b k a = record { value = truth b; accepted = rw k; reads = a; plain = truth_plain b; stop = stop }

  pub truth_read : r.kind ≡ Logical → at < length d → 48 ≤ get_or d at 0 → get_or d at 0 ≤ 49 → to ≡ at + 1 → Standing t v r d at to
  truth_read k h l u e = go (eqb (get_or d at 0) 49) refl
    where
      go : (q : Bool) → eqb (get_or d at 0) 49 ≡ q → Standing t v r d at to
      go true w = truth_stands true k (rw e (reads_byte d at h (eqb-true (get_or d at 0) 49 w)))
      go false w = let n = eqb-false (get_or d at 0) 49 w in truth_stands false k (rw e (reads_byte d at h (omega arith)))

-- ---- codes that rise
skip_many : (k : ℕ) {c n : ℕ} {ms : List ℤ} → Rising (c + k) n ms → Rising c (k + n) ms
skip_many zero {c} {n} {ms} h =
    let e : c + 0 ≡ c = omega arith in
    let z : n ≡ 0 + n = omega arith in
    rw z at (rw e at h)
skip_many (suc k) {c} {n} {ms} h =
    let e : c + suc k ≡ suc c + k = omega arith in
    let z : suc (k + n) ≡ suc k + n = omega arith in
    rw z at (skip (skip_many k {c = suc c} (rw e at h)))

pub rising_first : {least high n : ℕ} {ms : List ℤ} → least ≤ n → n ≤ high → Rising (n + 1) (high + 1 - (n + 1)) ms
    → Rising least (high + 1 - least) (pos n ∷ ms)
rising_first {least} {high} {n} {ms} l h s =
    let e : least + (n - least) ≡ n = omega arith in
    let k : n - least + suc (high + 1 - suc n) ≡ high + 1 - least = omega arith in
    rw k at (skip_many (n - least) {c = least} {n = suc (high + 1 - suc n)} {ms = pos n ∷ ms} (rw e (keep (rw (add-one n) at s))))

legal_between : (ok : ℤ → Bool) {c n : ℕ} {ms : List ℤ} → Rising c n ms → ((x : ℕ) → c ≤ x → x < c + n → ok (pos x) ≡ true)
    → all_legal ok ms ≡ true
unfolding all_legal
legal_between ok none f = refl
legal_between ok (skip s) f = legal_between ok s (λ x l h. f x (omega arith) (omega arith))
legal_between ok (keep {c = c} s) f = rw (f c (omega arith) (omega arith)) (legal_between ok s (λ x l h. f x (omega arith) (omega arith)))

-- WHAT WAS READ: codes that rise, up to a place
pub record Codes (d : List ℕ) (at low high most to : ℕ) : Type 0 where
  pub ms : List ℤ
  pub reads : Reads d at (set_text ms) to
  pub rises : Rising low (high + 1 - low) ms
  pub few : length ms ≤ most

-- or the place where they are due
abbrev pub CodesAt : List ℕ → ℕ → ℕ → ℕ → ℕ → ℕ → Type 0
CodesAt d at low high most to = (to ≡ at → ⊥) → Codes d at low high most to

-- what is read from a place on completes the codes before it
abbrev pub Rise : List ℕ → ℕ → ℕ → ℕ → ℕ → ℕ → ℕ → ℕ → Type 0
Rise d at low high most least left i =
    (m : ℤ) (ms : List ℤ) (to : ℕ) → Reads d i (set_text (m ∷ ms)) to → Rising least (high + 1 - least) (m ∷ ms) → length (m ∷ ms) ≤ left
    → Codes d at low high most to

pub rise_none : (d : List ℕ) (at low high most : ℕ) → Rise d at low high most low most at
rise_none d at low high most m ms to r s f = record { ms = m ∷ ms; reads = r; rises = s; few = f }

pub set_more : (n : ℕ) (m : ℤ) (ms : List ℤ) → numeral n ++ ((59 ∷ []) ++ set_text (m ∷ ms)) ≡ set_text (pos n ∷ m ∷ ms)
unfolding set_text codes_behind
set_more n m ms = rw (code_text n)

pub set_one : (n : ℕ) → numeral n ≡ set_text (pos n ∷ [])
unfolding set_text codes_behind
set_one n = sym (append-nil (export_number 0 (pos n)) ∙ code_text n)

module _ {d : List ℕ} {at low high most least left i n p : ℕ} (g : Rise d at low high most least left i) (a : CodeAt d i n p)
    (some : n ≡ 0 → ⊥) (l : least ≤ n) (h : n ≤ high) (more : 0 < left) where
  pub rise_more : get_or d p 0 ≡ 59 → Rise d at low high most (n + 1) (left - 1) (p + 1)
  rise_more e m ms to r s f =
      g (pos n) (m ∷ ms) to
      (reads_as (set_more n m ms) (reads_join (a.reads some) (reads_join (reads_byte d p (a.behind some) e) r)))
      (rising_first l h s) (omega arith)

  pub codes_end : Codes d at low high most p
  codes_end = g (pos n) [] p (reads_as (set_one n) (a.reads some)) (rising_first l h (rising_empty (n + 1) (high + 1 - (n + 1))))
      (omega arith)

-- ---- their row allows them
pub fits_between : (ok : ℤ → Bool) {low high : ℕ} {ms : List ℤ} → Rising low (high + 1 - low) ms
    → ((x : ℕ) → low ≤ x → x ≤ high → ok (pos x) ≡ true) → set_fits ok ms ≡ true
fits_between ok {low} {high} s f = fits_of ok s (legal_between ok s (λ x l h. f x l (omega arith)))

pub codes_fit : (t : List ℤ) (v : ℕ) (r : Row) {d : List ℕ} {at low high most to : ℕ} (c : Codes d at low high most to)
    → ((x : ℕ) → low ≤ x → x ≤ high → legal t v r (pos x) ≡ true) → set_fits (legal t v r) c.ms ≡ true
codes_fit t v r c f = fits_between (legal t v r) c.rises f

pub range_between : (t : List ℤ) (v : ℕ) (r : Row) → r.range ≡ true → count_of r.to ≤ 9999
    → (x : ℕ) → count_of r.from ≤ x → x ≤ count_of r.to → legal t v r (pos x) ≡ true
unfolding legal in_range count_of
range_between t v r e h x l u = rw (e, between r.from r.to x l u h)
  where
    between : (a b : ℤ) (x : ℕ) → count_of a ≤ x → x ≤ count_of b → count_of b ≤ 9999 → (le_z a (pos x) && le_z (pos x) b) ≡ true
    between (pos m) (pos n) x l u h = rw (le-leb m x l, le-leb x n u)
    between (pos m) (negsuc n) x l u h = absurd (omega arith)
    between (negsuc m) (pos n) x l u h = absurd (omega arith)
    between (negsuc m) (negsuc n) x l u h = absurd (omega arith)
