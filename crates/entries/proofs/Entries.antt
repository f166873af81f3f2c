-- A variable by what the code keeps of it is the variable of the definition.
use Rattle.std.specs.Prelude.{Ok, Err}
use mathlib.Core.Path.{◌≡◌, refl, sym, ap, ◌∙◌}
use mathlib.Core.Bool.{Bool, true, false, cond}
use mathlib.Core.List.{List}
use Prim.Native.Nat.{ℕ, zero, suc, ◌+◌, ◌-◌, ◌*◌, ◌≤◌, ◌<◌, max}
use native.Mathlib.Omega.{arith}
use lib.IntN.{ℤ}
use lib.ListN.{length}
use Rattle.below.specs.rule.Below.{max_below}
use Rattle.layout.specs.rule.Row.{kind_of, row_of}
use Rattle.layout.specs.declared.Row.{Row}
use Rattle.layout.specs.declared.Kind.{Kind}
use Rattle.layout.specs.declared.Kind.TheVariants.{Single, Multiple, Quantity, Character, Logical}
use Rattle.sound.specs.rule.Sound.{range_width, room_good}
use Rattle.widths.specs.rule.Width.{need}
use Rattle.tokens.specs.declared.Fault.{Fault}
use Rattle.tokens.specs.rule.Gap.{fault, OrFault}
use Rattle.values.specs.Line.{number_at, cells_of}
use Rattle.variables.specs.declared.Head.{Head}
use Rattle.cells.specs.rule.Cell.{pasted}
use Rattle.values.proofs.Goods.{values_good_lem}
use Rattle.values.proofs.Rooms.{cells_length, paste_fits}
use Rattle.variables.specs.declared.Rest.{Rest}
use Rattle.variables.specs.Rest.{Telling, Told, rest_of}
use Rattle.variables.specs.Rest.{rested_of}
use Rattle.variables.specs.Rest as told
use Rattle.variables.specs.Ident.{ident_on}
use Rattle.variables.specs.Head.{head_on}
use Rattle.entries.proofs.Heads.{none, head_good}
use Rattle.entries.proofs.Tellings.{rest_good}
use Rattle.measures.specs.Width.{plain_columns, lines_width, widest_of, width_of, widened, full_columns}
use Rattle.measures.specs.Width.{number_in, Measurable, measured}
use Rattle.measures.specs.Survey.{Variable, counted_in, columns_in, holds_in, lines_in}
use Rattle.entries.specs.declared.Stood.{Stood}
use Rattle.entries.specs.declared.Stood.TheVariants as stood
use Rattle.entries.specs.Entry.{Entry, variable, end_variable, told_then, ended, held_by, rest_then, entry_of}
use Rattle.entries.specs.Entry.{GoodHead, stood_of, Stored, measured_at, settled_by}
use Rattle.entries.specs.Entry as entry
use Rattle.entries.specs.Good.{GoodTelling}
use Rattle.entries.proofs.Columns.{filled, in_room, measurable}
use Rattle.tokens.specs.declared.Figures.{Figures}

-- ---- the width goes by the numbers of the lines alone
max_same : (f g : ℕ → ℕ) (n : ℕ) → ((i : ℕ) → i < n → f i ≡ g i) → max_below n f ≡ max_below n g
unfolding max_below
max_same f g zero h = refl
max_same f g (suc n) h = rw (max_same f g n (λ i l. h i (omega arith)), h n (omega arith))

module _ (r : Row) (f g : ℕ → ℤ) (same : (i : ℕ) → i < r.lines → f i ≡ g i) where
  pub widest_same : widest_of r f ≡ widest_of r g
  unfolding widest_of lines_width
  widest_same = ap (max (range_width r)) (max_same (λ i. need r.kind (f i)) (λ i. need r.kind (g i)) r.lines
      (λ i l. ap (need r.kind) (same i l)))

  pub width_same : (k : Kind) (size : ℕ) → width_of k r f size ≡ width_of k r g size
  unfolding width_of
  width_same Single size = widest_same
  width_same (Multiple s) size = widest_same
  width_same (Quantity q) size = widest_same
  width_same Character size = refl
  width_same Logical size = refl

module _ (h : Head) (x : Telling) (before : ℕ) (g : GoodHead h) (s : GoodTelling h.kind before x) (room : List ℤ)
    (stands : 4 * (before + length x.lines) ≤ length room) where
  abbrev here : List ℤ
  here = filled h x before g s room stands

  full_same : full_columns (number_in here before) h (counted_in before x) before ≡ columns_in before (variable h x)
  unfolding columns_in full_columns counted_in plain_columns row_of
  full_same =
      let c = plain_columns h (counted_in before x) before in
      ap (λ (w : ℕ). widened w c) (width_same (row_of c) (number_in here before) (number_at x.lines) same (kind_of c) x.size)
    where
      same : (i : ℕ) → i < (row_of (plain_columns h (counted_in before x) before)).lines → number_in here before i ≡ number_at x.lines i
      same i l = in_room h x before g s room stands i (omega arith)

  pub settled_is : (end : OrFault ℕ) → settled_by (number_in here before) h (counted_in before x) before end
      ≡ stood_of before (ended end (held_by before (variable h x)))
  unfolding stood_of measured held_by holds_in counted_in
  settled_is (Err f) = refl
  settled_is (Ok n) = rw full_same (by (room_good (kind_of (columns_in before (variable h x))) (row_of (columns_in before (variable h x)))))
    where
      by : (b : Bool) → measured_at (cond b (Ok (columns_in before (variable h x))) (Err (fault 7 h.place)))
          (before + length x.lines) n ≡ stood_of before (cond b (entry.Is (variable h x) n) (entry.Not (fault 7 h.place)))
      by true = refl
      by false = refl

-- ---- what the code has read behind the position
module _ (d : List ℕ) (h : Head) (before : ℕ) where
  abbrev told_of : Told
  told_of = rest_of d before h.kind (Ok h.next) (h.finish + 1 - h.start)

  -- a variable that was told, by what the code keeps of it
  pub record Known (room after : List ℤ) (r : Rest) : Type 0 where
    pub telling : Telling
    pub told_is : told_of ≡ told.Is telling
    pub counted : r ≡ counted_in before telling
    pub stored : after ≡ pasted room (4 * before) (cells_of telling.lines)
    pub good : GoodTelling h.kind before telling

  -- a refusal stays
  pub stood_not : (q : OrFault Rest) (f : Fault) → q ≡ rested_of before told_of → q ≡ Err f → stood.Not f
      ≡ stood_of before (rest_then d before h)
  unfolding rested_of rest_then stood_of
  stood_not q f e i = by told_of (sym e ∙ i) where
    by : (t : Told) → rested_of before t ≡ Err f → stood.Not f
        ≡ stood_of before (told_then t (λ x. ended (end_variable d x.next) (held_by before (variable h x))))
    by (told.Is x) j = none cc
    by (told.Not g) j = let k : g ≡ f = cc in rw k

  pub stored_not : (room after : List ℤ) (q : OrFault Rest) (f : Fault) → q ≡ rested_of before told_of → q ≡ Err f
      → Stored before (rest_then d before h) room after
  unfolding rested_of rest_then
  stored_not room after q f e i = by told_of (sym e ∙ i) where
    by : (t : Told) → rested_of before t ≡ Err f
        → Stored before (told_then t (λ x. ended (end_variable d x.next) (held_by before (variable h x)))) room after
    by (told.Is x) j = none cc
    by (told.Not g) j = record { stored = λ e. none cc }

  module _ (long : length d ≤ 1048576) (few : before ≤ 4096) (g : GoodHead h) (room after : List ℤ) (wide : 4 * before ≤ length room)
      (kept : length after ≡ length room) where
    pub known : (q : OrFault Rest) (r : Rest) → q ≡ rested_of before told_of → told.Stored before told_of room after → q ≡ Ok r
        → Known room after r
    unfolding rested_of counted_in
    known q r e s i = by told_of refl where
      by : (t : Told) → told_of ≡ t → Known room after r
      by (told.Is x) j =
          let k : Ok (counted_in before x) ≡ Ok r = sym (rw j at e) ∙ i in
          let m : counted_in before x ≡ r = cc in
          record {
            telling = x;
            told_is = j;
            counted = sym m;
            stored = s.stored j;
            good = rest_good d before long few (λ q t b l n v. values_good_lem d q before t long few v) h.kind (Ok h.next)
                (h.finish + 1 - h.start) x g.kind_some g.kind_few (omega (arith, g.ordered)) j;
          }
      by (told.Not f) j =
          let k : Err f ≡ Ok r = sym (rw j at e) ∙ i in
          none cc

    module _ (r : Rest) (k : Known room after r) where
      -- the room was long enough for the lines that stand in it
      stands : 4 * (before + length k.telling.lines) ≤ length room
      stands = omega (
        arith,
        paste_fits room (cells_of k.telling.lines) (4 * before) wide (sym (ap length k.stored) ∙ kept),
        cells_length k.telling.lines,
      )

      pub measure_here : Measurable after h r before
      measure_here = rw (k.stored, k.counted) (measurable h k.telling before g k.good room stands)

      rest_is : rest_then d before h ≡ ended (end_variable d k.telling.next) (held_by before (variable h k.telling))
      unfolding rest_then
      rest_is = rw k.told_is

      pub stood_here : (s : Stood) (end : OrFault ℕ) → end ≡ end_variable d r.next → s ≡ settled_by (number_in after before) h r before end
          → s ≡ stood_of before (rest_then d before h)
      unfolding counted_in
      stood_here s end e i =
          i ∙ rw (e, k.stored, k.counted, rest_is)
          (settled_is h k.telling before g k.good room stands (end_variable d k.telling.next))

      -- the lines are those of the variable that stands
      pub stored_here : Stored before (rest_then d before h) room after
      unfolding held_by
      stored_here = record {
        stored = λ {v} {n} e. k.stored
            ∙ ap (λ (w : Variable). pasted room (4 * before) (cells_of (lines_in w)))
            (same v n (end_variable d k.telling.next) (sym rest_is ∙ e));
      }
        where
          same : (v : Variable) (n : ℕ) (t : OrFault ℕ) → ended t (held_by before (variable h k.telling)) ≡ entry.Is v n
              → variable h k.telling ≡ v
          same v n (Err f) e = none cc
          same v n (Ok m) e = by (holds_in before (variable h k.telling)) e where
            by : (b : Bool) → cond b (entry.Is (variable h k.telling) m) (entry.Not (fault 7 h.place)) ≡ entry.Is v n
                → variable h k.telling ≡ v
            by true i = cc
            by false i = none cc

-- ---- the whole variable
pub good_head : (d : List ℕ) (i : OrFault Figures) (h : Head) (q : OrFault Head) → q ≡ head_on d i → q ≡ Ok h → GoodHead h
good_head d i h q e j =
    let g = head_good d i h (sym e ∙ j) in
    record { kind_some = g.kind_some; kind_few = g.kind_few; from_one = g.from_one; ordered = g.ordered; low = g.low }

module _ (d : List ℕ) (t : OrFault ℕ) (met : ℕ → Bool) (count before : ℕ) (i : OrFault Figures) (q : OrFault Head)
    (e : i ≡ ident_on d t met count)
    (o : q ≡ head_on d i) where
  pub entry_is_lem : (h : Head) → q ≡ Ok h → entry_of d t met count before ≡ rest_then d before h
  unfolding entry_of
  entry_is_lem h j = rw (← e, ← o, j)

  pub entry_not : (f : Fault) → q ≡ Err f → entry_of d t met count before ≡ entry.Not f
  unfolding entry_of
  entry_not f j = rw (← e, ← o, j)
