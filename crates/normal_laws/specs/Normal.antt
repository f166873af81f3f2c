-- THE LAWS OF NORMAL FORMS, over the public promise: all rows read as before; a second pass changes nothing; two such records of one
-- length that agree outside the value places have equal normal forms exactly when all rows read equal; bytes outside the value places
-- are kept; the order of the rows makes no difference; one outcome. The refusals exactly when: Exactly.antt.
use Rattle.std.specs.Prelude.{◌≡◌, refl, ◌↔◌, true, false, not, List, [], ◌∷◌, ℕ, ◌≤◌, ◌<◌, ltb, ℤ, length, get_or}
use Rattle.std.proofs.Common.{sym, ap, ◌∙◌, arith, lt-ltb}
use Rattle.places.specs.rule.Places.{pick, Out}
use Rattle.places.specs.Places.{Below}
use Rattle.layout.specs.rule.Row.{row_at}
use Rattle.fieldlaws.specs.Corrections.{read_fits}
use Rattle.sets.specs.rule.Sets.{is_illegal}
use Rattle.sound.specs.rule.Sound.{well_formed}
use Rattle.sound.specs.rule.Rows.{rows_of}
use Rattle.records.specs.rule.Value.{reading_at}
use Rattle.records.specs.rule.Verdict.{Verdict, sound, refused, verdict_of}
use Rattle.files.specs.rule.File.{is_sound}
use Rattle.file_laws.specs.Files.{not_sound}
use Rattle.read_laws.specs.rule.Refused.{Passes}
use Rattle.read_laws.specs.Refused.{passes_sound, sound_passes}
use Rattle.sharing.specs.rule.Sharing.{is_out, places_at, shares_none}
use Rattle.sharing.specs.Claims.{by_cases, none_out, out_cases}
use Rattle.sharing.specs.Pairs.{out_is}
use Rattle.normal.specs.rule.Normal.{normal_form, normal_verdict, normal_after, Normalised}
use Rattle.normal_laws.specs.rule.Alike.{OutAll, AgreeOutside, ReadAlike, back_all, EveryRow}
use Rattle.normal_laws.specs.PlainBytes.{High, more, high_bytes}
use Rattle.normal_laws.specs.Turns.{Given, held_value, turned_none, turned_all, turned_list, same_bytes, out_all}

-- ---- what a record that is not refused has
pub record Accepted (t : List ℤ) (s : List ℕ) : Type 0 where
  pub is : normal_verdict t s ≡ sound

refused_not : {A : Type 0} {k : ℕ} → refused k ≡ sound → A
refused_not e = let z : ◌≡◌ {A = ℕ} 0 1 = cc in absurd (omega arith)

module _ {t : List ℤ} {s : List ℕ} (e : Accepted t s) where
  pub well_formed_lem : well_formed t ≡ true
  unfolding normal_verdict
  well_formed_lem = by_cases (well_formed t) (λ x. x) (λ x. refused_not (rw x at e.is))

  pub unshared : shares_none t (rows_of t) ≡ true
  unfolding normal_verdict
  unshared = by_cases (shares_none t (rows_of t)) (λ x. x) (λ x. refused_not (rw (well_formed_lem, x) at e.is))

  judged_sound : verdict_of t s ≡ sound
  unfolding normal_verdict
  judged_sound = rw (well_formed_lem, unshared) at e.is

  passes : Passes t well_formed_lem s
  passes = sound_passes t well_formed_lem s judged_sound

  given : Given t s
  given = record { formed = well_formed_lem; unshared = unshared; long = passes.long; legal_rows = passes.legal_rows }

  all_done : (i : ℕ) → i < rows_of t → ltb i (rows_of t) ≡ true
  all_done i h = lt-ltb i (rows_of t) h

-- ---- ALL ROWS READ AS BEFORE
form_reads : {t : List ℤ} {s : List ℕ} → Accepted t s → ReadAlike t (normal_form t s) s
form_reads e = (turned_all (given e)).reads

-- ---- BYTES OUTSIDE THE VALUE PLACES ARE KEPT, and the length
form_kept : {t : List ℤ} {s : List ℕ} → Accepted t s → (q : ℕ) → OutAll t q → get_or (normal_form t s) q 0 ≡ get_or s q 0
form_kept e = (turned_all (given e)).kept

form_length : {t : List ℤ} {s : List ℕ} → Accepted t s → length (normal_form t s) ≡ length s
form_length e = (turned_all (given e)).size

-- ---- EQUAL FORMS EXACTLY WHEN ALL ROWS READ EQUAL
module _ {t : List ℤ} {a b : List ℕ} (x : Accepted t a) (y : Accepted t b) where
  forms_equal : length a ≡ length b → AgreeOutside t a b → ReadAlike t a b → normal_form t a ≡ normal_form t b
  forms_equal n o r = same_bytes (given x) (turned_all (given x)) (turned_all (given y)) (all_done x) (all_done x) n o r

  forms_read : normal_form t a ≡ normal_form t b → ReadAlike t a b
  forms_read e i h = sym (form_reads x i h) ∙ ap (reading_at t i) e ∙ form_reads y i h

-- ---- THE ORDER OF THE ROWS makes no difference
member_done : (i : ℕ) (ns : List ℕ) → (Out i ns → ⊥) → not (is_out i ns) ≡ true
member_done i ns f = by_cases (is_out i ns) (λ e. absurd (f (out_is i ns e))) (λ e. rw e)

below_rows : (v : ℕ) (ns : List ℕ) → ((i : ℕ) → (Out i ns → ⊥) → i < v) → Below v ns
below_rows v [] f = tt
below_rows v (n ∷ ns) f = (f n (λ o. o.0 refl), below_rows v ns (λ i g. f i (λ o. g o.1)))

pub any_order : {t : List ℤ} {s : List ℕ} → Accepted t s → (ns : List ℕ) → EveryRow t ns → back_all t ns s ≡ normal_form t s
any_order {t} {s} e ns r =
    same_bytes (given e) (turned_list (given e) ns (below_rows (rows_of t) ns r.rows) (turned_none t s)) (turned_all (given e))
    (λ i h. member_done i ns (r.every i h)) (all_done e) refl (λ q h o. refl) (λ i h. refl)

-- ---- A SECOND PASS: the form is sound, and its form is itself
-- bytes that are 32 or more
high_at : (r ps : List ℕ) → High (pick r ps) → (q : ℕ) → is_out q ps ≡ false → 32 ≤ get_or r q 0
high_at r [] h q o = none_out q o
high_at r (p ∷ ps) (more c b h) q o = out_cases q p ps o (λ z. rw z b) (λ z. high_at r ps h q z)

module _ {t : List ℤ} {s : List ℕ} (e : Accepted t s) where
  form_plain : (q : ℕ) → q < length (normal_form t s) → 32 ≤ get_or (normal_form t s) q 0
  form_plain q h =
      let d = turned_all (given e) in
      out_all t q
      (λ i k o. held_value (reading_at t i s) ((passes e).legal_rows i k) (λ x w.
      high_at (normal_form t s) (places_at t (rows_of t) i)
      (rw (d.bytes i k (all_done e i k) x w)
      (high_bytes (row_at t i).kind t (rows_of t) (row_at t i) x (read_fits t (rows_of t) (row_at t i) x s w))) q o))
      (λ o. rw (d.kept q o) ((passes e).plain q (rw (← d.size) h)))

  form_passes : Passes t (well_formed_lem e) (normal_form t s)
  form_passes = record {
    long = rw (form_length e) (passes e).long;
    plain = form_plain;
    legal_rows = λ i h. ap is_illegal (form_reads e i h) ∙ (passes e).legal_rows i h;
  }

  pub form_sound : Accepted t (normal_form t s)
  unfolding normal_verdict
  form_sound = record { is = rw (well_formed_lem e, unshared e, passes_sound t (well_formed_lem e) (normal_form t s) form_passes) }

  pub form_twice : normal_form t (normal_form t s) ≡ normal_form t s
  form_twice = forms_equal form_sound e (form_length e) (λ q h o. form_kept e q o) (form_reads e)

-- ---- over the promise of the call
module _ {t : List ℤ} {old new : List ℕ} (p : Normalised t old new sound) where
  promised : Accepted t old
  promised = record { is = sym p.says }

  pub new_is : new ≡ normal_form t old
  unfolding normal_after is_sound
  new_is = p.leaves ∙ rw promised.is

  pub reads_as_before : ReadAlike t new old
  reads_as_before = rw new_is (form_reads promised)

  pub filler_kept : (q : ℕ) → OutAll t q → get_or new q 0 ≡ get_or old q 0
  filler_kept = rw new_is (form_kept promised)

  pub length_kept : length new ≡ length old
  length_kept = rw new_is (form_length promised)

  -- the rows written back in any order
  pub order_free : (ns : List ℕ) → EveryRow t ns → back_all t ns old ≡ new
  order_free ns r = any_order promised ns r ∙ sym new_is

  -- "a second pass changes nothing", and isn't refused
  pub second_pass : {newer : List ℕ} {v : Verdict} → Normalised t new newer v → (v ≡ sound) × (newer ≡ new)
  unfolding normal_after is_sound
  second_pass {newer} q =
      let z : normal_verdict t new ≡ sound = rw new_is (form_sound promised).is in
      (q.says ∙ z, q.leaves ∙ rw z (rw new_is (form_twice promised)))

module _ {t : List ℤ} {a b a' b' : List ℕ} (p : Normalised t a a' sound) (q : Normalised t b b' sound) (n : length a ≡ length b)
    (o : AgreeOutside t a b) where
  -- "equal normal forms exactly when all rows read equal"
  pub same_exactly : (a' ≡ b') ↔ ReadAlike t a b
  same_exactly = (
    λ e. forms_read (promised p) (promised q) (sym (new_is p) ∙ e ∙ new_is q),
    λ r. new_is p ∙ forms_equal (promised p) (promised q) n o r ∙ sym (new_is q),
  )

-- ---- refusals: the record is kept
pub refused_keeps : {t : List ℤ} {old new : List ℕ} {v : Verdict} → Normalised t old new v → (v ≡ sound → ⊥) → new ≡ old
unfolding normal_after
refused_keeps {t} {old} {new} {v} p f = p.leaves ∙ rw (← p.says, not_sound v f)

-- ONE OUTCOME
pub normal_one : {t : List ℤ} {old new₁ new₂ : List ℕ} {v₁ v₂ : Verdict} → Normalised t old new₁ v₁ → Normalised t old new₂ v₂
    → (v₁ ≡ v₂) × (new₁ ≡ new₂)
normal_one p q = (p.says ∙ sym q.says, p.leaves ∙ sym q.leaves)
