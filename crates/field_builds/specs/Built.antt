-- What a field leaves that was built where it stands: the record with the value that export writes so.
use Rattle.std.specs.Prelude.{◌≡◌, Bool, List, [], ◌∷◌, ◌++◌, ℕ, ◌+◌, ◌-◌, ◌≤◌, ◌<◌, ℤ, pos, length, take, set}
use Rattle.std.proofs.Math.Path.{refl, sym}
use Rattle.std.proofs.Common.{ap, ◌∙◌, append_assoc, add-one, take-suc-set}
use Rattle.std.proofs.Math.Bool.{true, false, cond}
use native.Mathlib.Omega.{arith}
use borrow.Author.Tests.{eqb-true, eqb-false}
use Rattle.std.proofs.Math.Dec.{eqb}
use Rattle.std.proofs.Math.ListN.{get_or}
use Rattle.below.specs.Below.{holds_not}
use Rattle.layout.specs.declared.Row.{Row}
use Rattle.fields.specs.rule.Legal.{legal}
use Rattle.fields.specs.rule.Field.{Value, missing, number, members, text, truth, set_fits}
use Rattle.fields.specs.rule.Row.{Fit, fits, other_type, not_legal, too_many, fit_of, written_of}
use Rattle.fieldlaws.specs.RisingLaws.{Rising, rising_empty}
use Rattle.lines.specs.rule.Text.{numeral}
use Rattle.commas.specs.rule.Csv.{holds_special}
use Rattle.csv_fields.specs.Page.{part, part_rest, BareTo}
use Rattle.value_fields.specs.rule.Values.{export_number, set_text, export_value}
use Rattle.widths.specs.rule.Width.{decimals_of}
use Rattle.value_fields.specs.Plain.{truth_plain}
use Rattle.value_fields.proofs.Plain.{number_plain, set_plain}
use Rattle.number_fields.specs.Reads.{Reads, reads_none, reads_byte, reads_join, reads_as, CodeAt}
use Rattle.writes.specs.declared.Value as given
use Rattle.writes.specs.declared.Value.TheVariants.{Missing, Number, Set, Text, Truth}
use Rattle.writes.specs.declared.Wrote.{Wrote}
use Rattle.writes.specs.declared.Wrote.TheVariants.{Done}
use Rattle.writes.specs.rule.Write.{lent_value}
use Rattle.writes.specs.Write.{WrittenBy, answer_by, left_by}
use Rattle.field_values.specs.Guess.{code_text}
use Rattle.field_values.specs.Steps.{is_done}
use Rattle.field_judges.specs.Judged.{StopsAt, Standing, set_more, set_one, rising_first, fits_between}

-- ---- A VALUE OF THE ROW STANDS from one place to another, and the record has it
pub record Built (t : List ℤ) (v : ℕ) (r : Row) (d : List ℕ) (at to : ℕ) (old new : List ℕ) : Type 0 where
  pub standing : Standing t v r d at to
  pub leaves : new ≡ written_of t v r standing.value old

-- behind what stops it; or the record is kept
pub record BuiltAt (t : List ℤ) (v : ℕ) (r : Row) (d : List ℕ) (at : ℕ) (old new : List ℕ) (e : ℕ) : Type 0 where
  pub built : (e ≡ 0 → ⊥) → Built t v r d at (e - 1) old new
  pub kept : e ≡ 0 → new ≡ old

pub built_none : {t : List ℤ} {v : ℕ} {r : Row} {d : List ℕ} {at : ℕ} {old new : List ℕ} → new ≡ old → BuiltAt t v r d at old new 0
built_none e = record { built = λ z. absurd (z refl); kept = λ z. e }

pub built_some : {t : List ℤ} {v : ℕ} {r : Row} {d : List ℕ} {at to : ℕ} {old new : List ℕ} → Built t v r d at to old new
    → BuiltAt t v r d at old new (to + 1)
built_some {to = to} b =
    let e : to ≡ to + 1 - 1 = omega arith in
    record { built = λ z. rw e at b; kept = λ z. absurd (omega arith) }

-- ---- what a write leaves, by its answer
by_fit : (q : Fit) (x y : List ℕ) → (is_done (answer_by q) ≡ true → (q ≡ fits) × (left_by q x y ≡ x))
    × (is_done (answer_by q) ≡ false → left_by q x y ≡ y)
unfolding is_done answer_by left_by
by_fit fits x y = (λ e. (refl, refl), λ e. holds_not refl e)
by_fit other_type x y = (λ e. holds_not e refl, λ e. refl)
by_fit not_legal x y = (λ e. holds_not e refl, λ e. refl)
by_fit too_many x y = (λ e. holds_not e refl, λ e. refl)

module _ {t : List ℤ} {v : ℕ} {r : Row} {value : given.Value} {list : List ℤ} {bytes : List ℕ} {old new : List ℕ} {a : Wrote} {b : Bool}
    (w : WrittenBy r.kind t v r value list bytes old new a) (d : b ≡ is_done a) where
  abbrev fit : Fit
  fit = fit_of t v r (lent_value value list bytes)

  left : (is_done (answer_by fit) ≡ true
      → (fit ≡ fits) × (left_by fit (written_of t v r (lent_value value list bytes) old) old
      ≡ written_of t v r (lent_value value list bytes) old))
      × (is_done (answer_by fit) ≡ false → left_by fit (written_of t v r (lent_value value list bytes) old) old ≡ old)
  left = by_fit fit (written_of t v r (lent_value value list bytes) old) old

  pub write_kept : b ≡ false → new ≡ old
  unfolding written_of
  write_kept e = w.leaves ∙ left.1 (ap is_done (sym w.says) ∙ sym d ∙ e)

  write_done : b ≡ true → (fit ≡ fits) × (new ≡ written_of t v r (lent_value value list bytes) old)
  unfolding written_of
  write_done e = let k = left.0 (ap is_done (sym w.says) ∙ sym d ∙ e) in (k.0, w.leaves ∙ k.1)

  -- the value that was written stands in the text
  stood : {s : List ℕ} {at to : ℕ} {x : Value} → x ≡ lent_value value list bytes → b ≡ true
      → Reads s at (export_value (decimals_of r.kind) x) to → holds_special (export_value (decimals_of r.kind) x) ≡ false → StopsAt s to
      → Built t v r s at to old new
  stood {x = x} q e reads plain stop =
      let k = write_done e in
      record {
        standing = record { value = x; accepted = rw q k.0; reads = reads; plain = plain; stop = stop };
        leaves = rw q k.1;
      }

-- ---- by what was written
module _ {t : List ℤ} {v : ℕ} {r : Row} {d : List ℕ} {at to : ℕ} {old new : List ℕ} {a : Wrote} {b : Bool} (stop : StopsAt d to)
    (done : b ≡ is_done a) (yes : b ≡ true) where
  pub number_built : {k : ℕ} {z : ℤ} → k ≡ decimals_of r.kind → Reads d at (export_number k z) to
      → WrittenBy r.kind t v r (Number z) [] [] old new a → Built t v r d at to old new
  unfolding lent_value export_value
  number_built {k} {z} e reads w = stood w done {x = number z} refl yes (rw e at reads) (number_plain (decimals_of r.kind) z) stop

  pub code_built : (n : ℕ) {z : ℤ} → 0 ≡ decimals_of r.kind → z ≡ pos n → Reads d at (numeral n) to
      → WrittenBy r.kind t v r (Number z) [] [] old new a → Built t v r d at to old new
  code_built n {z} e q reads w = number_built e (rw q (reads_as (sym (code_text n)) reads)) w

  pub set_built : {ms : List ℤ} {bytes : List ℕ} → Reads d at (set_text ms) to → WrittenBy r.kind t v r Set ms bytes old new a
      → Built t v r d at to old new
  unfolding lent_value export_value
  set_built {ms} reads w = stood w done {x = members ms} refl yes reads (set_plain ms) stop

  pub text_built : {list : List ℤ} → BareTo d at to → WrittenBy r.kind t v r Text list (part d at to) old new a
      → Built t v r d at to old new
  unfolding lent_value export_value
  text_built b w =
      stood w done {x = text (part d at to)} refl yes
      (record { on = b.on; inside = b.within; is = sym (part_rest d at to b.on) }) b.plain stop

  pub truth_built : at < length d → 48 ≤ get_or d at 0 → get_or d at 0 ≤ 49 → to ≡ at + 1
      → WrittenBy r.kind t v r (Truth (eqb (get_or d at 0) 49)) [] [] old new a → Built t v r d at to old new
  unfolding lent_value export_value
  truth_built h l u e w = stood w done {x = truth (eqb (get_or d at 0) 49)} refl yes
      (rw e (reads_byte d at h (byte (eqb (get_or d at 0) 49) refl)))
      (truth_plain (eqb (get_or d at 0) 49)) stop
    where
      byte : (q : Bool) → eqb (get_or d at 0) 49 ≡ q → get_or d at 0 ≡ cond q 49 48
      byte true w = eqb-true (get_or d at 0) 49 w
      byte false w = let n = eqb-false (get_or d at 0) 49 w in omega arith

pub missing_built : {t : List ℤ} {v : ℕ} {r : Row} {d : List ℕ} {at : ℕ} {old new : List ℕ} → StopsAt d at
    → WrittenBy r.kind t v r Missing [] [] old new Done → Built t v r d at at old new
unfolding lent_value export_value is_done holds_special
missing_built {d = d} {at} stop w =
    let h = stop.within in
    stood w refl {x = missing} refl refl (reads_none d at (omega arith)) refl stop

-- ---- codes that rise, in a list
pub record CodesIn (d : List ℕ) (at low high most : ℕ) (list : List ℤ) (n to : ℕ) : Type 0 where
  pub few : n ≤ most
  pub short : n ≤ 9999
  pub reads : (n ≡ 0 → ⊥) → Reads d at (set_text (take n list)) to
  pub rises : (n ≡ 0 → ⊥) → Rising low (high + 1 - low) (take n list)

pub codes_none : (d : List ℕ) (at low high most : ℕ) (list : List ℤ) (to : ℕ) → CodesIn d at low high most list 0 to
codes_none d at low high most list to =
    record { few = omega arith; short = omega arith; reads = λ z. absurd (z refl); rises = λ z. absurd (z refl) }

-- what is read from a place on goes on with those of the list
pub record Climb (d : List ℕ) (at low high : ℕ) (list : List ℤ) (k least i : ℕ) : Type 0 where
  pub goes : (m : ℤ) (ms : List ℤ) (to : ℕ) → Reads d i (set_text (m ∷ ms)) to → Rising least (high + 1 - least) (m ∷ ms)
      → Reads d at (set_text (take k list ++ (m ∷ ms))) to × Rising low (high + 1 - low) (take k list ++ (m ∷ ms))

pub climb_none : (d : List ℕ) (at low high : ℕ) (list : List ℤ) → Climb d at low high list 0 low at
climb_none d at low high list = record { goes = λ m ms to r s. (r, s) }

module _ {d : List ℕ} {at low high : ℕ} {list : List ℤ} {k least i n p : ℕ} (g : Climb d at low high list k least i) (a : CodeAt d i n p)
    (some : n ≡ 0 → ⊥) (l : least ≤ n) (h : n ≤ high) (room : k < length list) {z : ℤ} (is : z ≡ pos n) where
  taken : take (k + 1) (set list k z) ≡ take k list ++ (pos n ∷ [])
  taken = rw (add-one k, is) (take-suc-set list k (pos n) room)

  pub climb_more : get_or d p 0 ≡ 59 → Climb d at low high (set list k z) (k + 1) (n + 1) (p + 1)
  climb_more e = record {
    goes = λ m ms to r s.
        rw (taken, append_assoc (take k list) (pos n ∷ []) (m ∷ ms)) (g.goes (pos n) (m ∷ ms) to
        (reads_as (set_more n m ms) (reads_join (a.reads some) (reads_join (reads_byte d p (a.behind some) e) r))) (rising_first l h s));
  }

  pub climb_end : {most : ℕ} → k < most → k < 9999 → CodesIn d at low high most (set list k z) (k + 1) p
  climb_end f t =
      let x = g.goes (pos n) [] p (reads_as (set_one n) (a.reads some)) (rising_first l h (rising_empty (n + 1) (high + 1 - (n + 1)))) in
      record { few = omega arith; short = omega arith; reads = λ w. rw taken x.0; rises = λ w. rw taken x.1 }

-- their row allows them
pub members_fit : (t : List ℤ) (v : ℕ) (r : Row) {d : List ℕ} {at low high most : ℕ} {list : List ℤ} {n to : ℕ}
    → CodesIn d at low high most list n to → (n ≡ 0 → ⊥) → ((x : ℕ) → low ≤ x → x ≤ high → legal t v r (pos x) ≡ true)
    → set_fits (legal t v r) (take n list) ≡ true
members_fit t v r c some f = fits_between (legal t v r) (c.rises some) f
