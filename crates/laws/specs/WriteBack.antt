-- What follows from rule/WriteBack.antt, and what the code keeps.
use Rattle.std.specs.Prelude.{◌≡◌, Bool, List, ℕ, ◌+◌, ◌-◌, ◌≤◌, ◌<◌, leb, ltb, ℤ, drop}
use Rattle.std.proofs.Math.Path.{refl, sym, ap}
use Rattle.std.proofs.Common.{◌∙◌, arith}
use Rattle.std.proofs.Math.Bool.{true, false, cond}
use borrow.Author.Tests.{lt-ltb, le-leb, ltb-true, leb-true}
use Rattle.std.proofs.Math.ListN.{length, take}
use Rattle.std.proofs.Math.Seq.{take-append_seam}
use Rattle.places.specs.rule.Places.{pick, run}
use Rattle.places.specs.Laws.{pick_run, length_pick, length_run}
use Rattle.layout.specs.rule.Row.{row_at}
use Rattle.layout.specs.declared.Row.{Row}
use Rattle.layout.specs.declared.Kind.{Kind}
use Rattle.layout.specs.declared.Kind.TheVariants.{Character}
use Rattle.fields.specs.rule.Number.{all_spaces}
use Rattle.fields.specs.rule.Field.{Value, missing, number, members, text, truth, Field, holds, illegal}
use Rattle.fields.specs.rule.Field.{all_plain, unended, text_field, text_bytes}
use Rattle.fields.specs.rule.Row.{places_by, field_by, reading_of}
use Rattle.fieldlaws.specs.Corrections.{read_fits}
use Rattle.fieldlaws.specs.KeptLaws.{text_kept}
use Rattle.fieldlaws.specs.BackLaws.{held}
use Rattle.fieldlaws.specs.TextLaws.{fitting}
use Rattle.sound.specs.rule.Sound.{well_formed}
use Rattle.sound.specs.rule.Rows.{rows_of, length_of}
use Rattle.sound.specs.Rows.{row_facts}
use Rattle.sets.specs.rule.Sets.{filled_of, list_after}
use Rattle.faults.specs.declared.Fault.{Fault}
use Rattle.records.specs.rule.First.{row_fault}
use Rattle.records.specs.rule.Value.{Outcome, nothing, number_is, set_of, text_at, truth_is, refused, bad_field, outcome_of, reading_at}
use Rattle.records.specs.rule.Value.{read_as, list_as, ValueRead}
use Rattle.records.specs.Value.{held_outcome}
use Rattle.writes.specs.rule.Public.{Written}
use Rattle.laws.specs.rule.Writing.{Sound}
use Rattle.laws.specs.Writing.{keeps_length, write_back_accepted, write_back}
use Rattle.laws.specs.ReadBack.{text_kind, text_room, text_first}
use Rattle.laws.specs.rule.WriteBack.{Answered, missing_answered, number_answered, set_answered, text_answered, truth_answered}

-- ---- an answer by its case
module _ {list : List ℤ} {bytes : List ℕ} where
  not_refused : {A : Type 0} {o : Outcome} {x : Value} (k : ℕ) → Answered list bytes o x → o ≡ refused k → A
  not_refused k missing_answered e = let z : ◌≡◌ {A = ℕ} 0 1 = cc in absurd (omega arith)
  not_refused k number_answered e = let z : ◌≡◌ {A = ℕ} 0 1 = cc in absurd (omega arith)
  not_refused k set_answered e = let z : ◌≡◌ {A = ℕ} 0 1 = cc in absurd (omega arith)
  not_refused k text_answered e = let z : ◌≡◌ {A = ℕ} 0 1 = cc in absurd (omega arith)
  not_refused k truth_answered e = let z : ◌≡◌ {A = ℕ} 0 1 = cc in absurd (omega arith)

  not_faulty : {A : Type 0} {o : Outcome} {x : Value} (y : Fault) → Answered list bytes o x → o ≡ bad_field y → A
  not_faulty y missing_answered e = let z : ◌≡◌ {A = ℕ} 0 1 = cc in absurd (omega arith)
  not_faulty y number_answered e = let z : ◌≡◌ {A = ℕ} 0 1 = cc in absurd (omega arith)
  not_faulty y set_answered e = let z : ◌≡◌ {A = ℕ} 0 1 = cc in absurd (omega arith)
  not_faulty y text_answered e = let z : ◌≡◌ {A = ℕ} 0 1 = cc in absurd (omega arith)
  not_faulty y truth_answered e = let z : ◌≡◌ {A = ℕ} 0 1 = cc in absurd (omega arith)

  is_missing : {o : Outcome} {x : Value} → Answered list bytes o x → o ≡ nothing → x ≡ missing
  is_missing missing_answered e = refl
  is_missing number_answered e = let z : ◌≡◌ {A = ℕ} 0 1 = cc in absurd (omega arith)
  is_missing set_answered e = let z : ◌≡◌ {A = ℕ} 0 1 = cc in absurd (omega arith)
  is_missing text_answered e = let z : ◌≡◌ {A = ℕ} 0 1 = cc in absurd (omega arith)
  is_missing truth_answered e = let z : ◌≡◌ {A = ℕ} 0 1 = cc in absurd (omega arith)

  is_number : {o : Outcome} {x : Value} (z : ℤ) → Answered list bytes o x → o ≡ number_is z → x ≡ number z
  is_number y missing_answered e = let z : ◌≡◌ {A = ℕ} 0 1 = cc in absurd (omega arith)
  is_number y number_answered e = cc
  is_number y set_answered e = let z : ◌≡◌ {A = ℕ} 0 1 = cc in absurd (omega arith)
  is_number y text_answered e = let z : ◌≡◌ {A = ℕ} 0 1 = cc in absurd (omega arith)
  is_number y truth_answered e = let z : ◌≡◌ {A = ℕ} 0 1 = cc in absurd (omega arith)

  is_set : {o : Outcome} {x : Value} (n : ℕ) → Answered list bytes o x → o ≡ set_of n → x ≡ members (take n list)
  is_set m missing_answered e = let z : ◌≡◌ {A = ℕ} 0 1 = cc in absurd (omega arith)
  is_set m number_answered e = let z : ◌≡◌ {A = ℕ} 0 1 = cc in absurd (omega arith)
  is_set m (set_answered {n}) e = let q : n ≡ m = cc in rw q
  is_set m text_answered e = let z : ◌≡◌ {A = ℕ} 0 1 = cc in absurd (omega arith)
  is_set m truth_answered e = let z : ◌≡◌ {A = ℕ} 0 1 = cc in absurd (omega arith)

  is_text_lem : {o : Outcome} {x : Value} (p n : ℕ) → Answered list bytes o x → o ≡ text_at p n → x ≡ text (take n (drop p bytes))
  is_text_lem p n missing_answered e = let z : ◌≡◌ {A = ℕ} 0 1 = cc in absurd (omega arith)
  is_text_lem p n number_answered e = let z : ◌≡◌ {A = ℕ} 0 1 = cc in absurd (omega arith)
  is_text_lem p n set_answered e = let z : ◌≡◌ {A = ℕ} 0 1 = cc in absurd (omega arith)
  is_text_lem p n (text_answered {p = q} {n = m}) e = let a : q ≡ p = cc in let b : m ≡ n = cc in rw (a, b)
  is_text_lem p n truth_answered e = let z : ◌≡◌ {A = ℕ} 0 1 = cc in absurd (omega arith)

  is_truth : {o : Outcome} {x : Value} (b : Bool) → Answered list bytes o x → o ≡ truth_is b → x ≡ truth b
  is_truth b missing_answered e = let z : ◌≡◌ {A = ℕ} 0 1 = cc in absurd (omega arith)
  is_truth b number_answered e = let z : ◌≡◌ {A = ℕ} 0 1 = cc in absurd (omega arith)
  is_truth b set_answered e = let z : ◌≡◌ {A = ℕ} 0 1 = cc in absurd (omega arith)
  is_truth b text_answered e = let z : ◌≡◌ {A = ℕ} 0 1 = cc in absurd (omega arith)
  is_truth b truth_answered e = cc

-- ---- a text that is read stands where the answer says
text_cut : (s y : List ℕ) → text_field s ≡ holds (text y) → y ≡ unended s
unfolding text_field
text_cut s y e = go (all_spaces s) (all_plain s) e
  where
    go : (a b : Bool) → cond a (holds missing) (cond b (holds (text (unended s))) illegal) ≡ holds (text y) → y ≡ unended s
    go true b q = let z : ◌≡◌ {A = ℕ} 0 1 = cc in absurd (omega arith)
    go false true q = cc
    go false false q = let z : ◌≡◌ {A = ℕ} 0 1 = cc in absurd (omega arith)

text_said : (k : Kind) (t : List ℤ) (v : ℕ) (r : Row) (bytes y : List ℕ) → k ≡ Character
    → field_by k t v r (pick bytes (places_by k t v r)) ≡ holds (text y)
    → text_field (pick bytes (run (r.start - 1) r.width)) ≡ holds (text y)
unfolding field_by places_by
text_said k t v r bytes y e q = rw e at q

module _ {t : List ℤ} {i : ℕ} (bytes : List ℕ) (s : Sound t i (length bytes)) where
  text_stands : (y : List ℕ) → reading_at t i bytes ≡ holds (text y) → take (length y) (drop ((row_at t i).start - 1) bytes) ≡ y
  unfolding reading_of
  text_stands y e =
      let r = row_at t i in
      let p = r.start - 1 in
      let k = text_kind r.kind t (rows_of t) r y (read_fits t (rows_of t) r (text y) bytes e) in
      let f = row_facts t s.formed i s.row in
      let g = text_room r.kind r k.0 f.kind in
      let n : p + r.width ≤ length bytes = omega (arith, s.long, f.position.inside, f.position.from_one, g.room) in
      let x = pick bytes (run p r.width) in
      let u : y ≡ unended x = text_cut x y (text_said r.kind t (rows_of t) r bytes y k.0 e) in
      let l : length x ≡ r.width = length_pick bytes (run p r.width) ∙ length_run p r.width in
      let b : text_bytes r.width y ≡ x = ap (text_bytes r.width) u ∙ text_kept r.width x l in
      text_first r.width p y bytes (fitting r.width y k.1).few (sym (pick_run bytes p r.width n) ∙ sym b)

-- ---- THE VALUE ANSWERED is the value that the record holds
module _ {t : List ℤ} {i : ℕ} {bytes : List ℕ} {list list' : List ℤ} {o : Outcome} {x : Value} (read : ValueRead t i bytes list list' o)
    (answered : Answered list' bytes o x) where
  -- what was answered was read: nothing refused it
  pub answered_sound : Sound t i (length bytes)
  unfolding read_as
  answered_sound = formed (well_formed t) refl read.says
    where
      here : Outcome
      here = outcome_of ((row_at t i).start - 1) (length list) (row_fault t (rows_of t) bytes i) (reading_at t i bytes)

      longer : well_formed t ≡ true → i < rows_of t → (b : Bool) → leb (length_of t) (length bytes) ≡ b → o ≡ cond b here (refused 22)
          → Sound t i (length bytes)
      longer g h true e q = record { formed = g; row = h; long = leb-true (length_of t) (length bytes) e }
      longer g h false e q = not_refused 22 answered q

      rowed : well_formed t ≡ true → (b : Bool) → ltb i (rows_of t) ≡ b
          → o ≡ cond b (cond (leb (length_of t) (length bytes)) here (refused 22)) (refused 21) → Sound t i (length bytes)
      rowed g true e q = longer g (ltb-true i (rows_of t) e) (leb (length_of t) (length bytes)) refl q
      rowed g false e q = not_refused 21 answered q

      formed : (b : Bool) → well_formed t ≡ b
          → o ≡ cond b (cond (ltb i (rows_of t)) (cond (leb (length_of t) (length bytes)) here (refused 22)) (refused 21)) (refused 20)
          → Sound t i (length bytes)
      formed true g q = rowed g (ltb i (rows_of t)) refl q
      formed false g q = not_refused 20 answered q

  outcome_is : o ≡ outcome_of ((row_at t i).start - 1) (length list) (row_fault t (rows_of t) bytes i) (reading_at t i bytes)
  unfolding read_as
  outcome_is =
      let s = answered_sound in
      read.says ∙ rw (s.formed, lt-ltb i (rows_of t) s.row, le-leb (length_of t) (length bytes) s.long)

  list_is : list' ≡ list_after (reading_at t i bytes) list
  unfolding list_as
  list_is =
      let s = answered_sound in
      read.leaves ∙ rw (s.formed, lt-ltb i (rows_of t) s.row, le-leb (length_of t) (length bytes) s.long)

  held_by : (f : Field) → reading_at t i bytes ≡ f → o
      ≡ outcome_of ((row_at t i).start - 1) (length list) (row_fault t (rows_of t) bytes i) f
      → list' ≡ list_after f list → f ≡ holds x
  unfolding outcome_of list_after filled_of
  held_by illegal r e l = not_faulty (row_fault t (rows_of t) bytes i) answered e
  held_by (holds missing) r e l = ap holds (sym (is_missing answered e))
  held_by (holds (number z)) r e l = ap holds (sym (is_number z answered e))
  held_by (holds (truth b)) r e l = ap holds (sym (is_truth b answered e))
  held_by (holds (text y)) r e l =
      ap holds (sym (is_text_lem ((row_at t i).start - 1) (length y) answered e ∙ ap text (text_stands bytes answered_sound y r)))
  held_by (holds (members ms)) r e l = go (leb (length ms) (length list)) e l
    where
      go : (b : Bool) → o ≡ cond b (set_of (length ms)) (refused 25) → list' ≡ cond b (filled_of ms list) list → holds (members ms)
          ≡ holds x
      go false q m = not_refused 25 answered q
      go true q m =
          let u : take (length ms) list' ≡ ms = ap (take (length ms)) m ∙ take-append_seam ms (drop (length ms) list) in
          ap holds (sym (is_set (length ms) answered q ∙ ap members u))

  pub answered_held : reading_at t i bytes ≡ holds x
  answered_held = held_by (reading_at t i bytes) refl outcome_is list_is

-- ---- WRITE-BACK
module _ {t : List ℤ} {i : ℕ} {x : Value} {old new : List ℕ} {list list' : List ℤ} {o : Outcome} {a : ℕ}
    (read : ValueRead t i old list list' o) (answered : Answered list' old o x) (w : Written t i x old new a) where
  -- it is done
  pub back_done : a ≡ 0
  back_done = write_back_accepted (answered_sound read answered) (answered_held read answered) w

  -- the row reads as before
  back_reading : reading_at t i new ≡ reading_at t i old
  back_reading = write_back (answered_held read answered) (rw back_done at w)

  -- every later read, with whatever list, is one that the record gave before
  pub back_read : {l l' : List ℤ} {o' : Outcome} → ValueRead t i new l l' o' → ValueRead t i old l l' o'
  unfolding read_as list_as
  back_read r = record {
    says = r.says ∙ rw (
      keeps_length w,
      back_reading,
      answered_held read answered,
      held_outcome _ _ (row_fault t (rows_of t) new i) (row_fault t (rows_of t) old i) x,
    );
    leaves = r.leaves ∙ rw (keeps_length w, back_reading);
  }

  -- with a list as long it answers the same, and with any list that is long enough the same value
  pub back_same : {l l' : List ℤ} {o' : Outcome} → length l ≡ length list → ValueRead t i new l l' o' → o' ≡ o
  back_same e r = (back_read r).says ∙ ap (read_as t i old) e ∙ sym read.says

  pub back_value : {l l' : List ℤ} {o' : Outcome} {y : Value} → ValueRead t i new l l' o' → Answered l' new o' y → y ≡ x
  back_value r b = held (sym (answered_held r b) ∙ back_reading ∙ answered_held read answered)
