-- A variable that was read is good: its row holds every clause of a well-formed table that speaks of one row, its ident is new, and
-- there is a row left for it.
use Rattle.std.specs.Prelude.{Ok, Err}
use mathlib.Core.Path.{◌≡◌, refl, ap, ◌∙◌}
use mathlib.Core.Logic.{⊎_elim}
use mathlib.Core.Bool.{Bool, true, false, cond, not, ◌&&◌, ◌||◌, beq}
use mathlib.Core.List.{List, ◌∷◌}
use Prim.Native.Nat.{ℕ, zero, suc, ◌+◌, ◌-◌, ◌*◌, ◌≤◌, ◌<◌}
use native.Mathlib.Omega.{arith}
use borrow.Author.Tests.{eqb-false, ltb-true, leb-false, le-leb, eq-eqb, ne_eqb}
use lib.Dec.{eqb, ltb, leb}
use lib.IntN.{ℤ, pos}
use lib.ListN.{length}
use Rattle.below.specs.Below.{both_and, and_true, holds_not, all_of}
use Rattle.cells.specs.rule.Cell.{count_of, eq_z}
use Rattle.cells.specs.Cell.{same_true, same_self}
use Rattle.strides.specs.rule.Stride.{unlike, number_new, all_differ}
use Rattle.layout.specs.rule.Layout.{line_size, line_at}
use Rattle.layout.specs.rule.Row.{kind_of, row_of}
use Rattle.layout.specs.Row.{kind_cases}
use Rattle.layout.specs.declared.Columns.{Columns}
use Rattle.sound.specs.rule.Sound.{lacked_zero, point_given, shares_given, values_given, counts_good, places_good, range_lacked, range_good}
use Rattle.sound.specs.rule.Sound.{line_plain}
use Rattle.sound.specs.rule.Sound.{values_fit, range_width, width_good}
use Rattle.tokens.specs.declared.Figures.{Figures}
use Rattle.tokens.specs.rule.Gap.{fault, OrFault}
use Rattle.values.specs.declared.Said.{Said}
use Rattle.values.specs.Line.{number_at, line_cells, cells_of}
use Rattle.values.specs.Good.{EachGood}
use Rattle.values.specs.Good as each
use Rattle.values.proofs.Goods.{values_good_lem}
use Rattle.variables.specs.declared.Head.{Head}
use Rattle.variables.specs.Ident.{wrong_ident, judge_ident, ident_on}
use Rattle.variables.specs.Head.{head_on}
use Rattle.variables.specs.Rest.{Telling, Told, rest_of}
use Rattle.variables.specs.Rest as told
use Rattle.measures.specs.Width.{flag_of, plain_columns, widest_of, width_of, widened, full_columns}
use Rattle.measures.specs.Survey.{Variable, counted_in, columns_in, holds_in}
use Rattle.measures.specs.Good.{GoodVariable}
use Rattle.entries.specs.Entry.{GoodHead}
use Rattle.entries.specs.Entry.{variable, end_variable, told_then, ended, held_by, rest_then, head_then, entry_of}
use Rattle.entries.specs.Entry as entry
use Rattle.entries.specs.Good.{GoodTelling, EntryGood}
use Rattle.entries.proofs.Heads.{none, head_good}
use Rattle.entries.proofs.Heads as heads
use Rattle.entries.proofs.Tellings.{rest_good}
use Rattle.entries.proofs.Columns.{range_fits, lines_fit}

-- ---- the ident: not 0, of at most four digits, not repeated (else 5), and no 513th (else 8)
pub record GoodIdent (met : ℕ → Bool) (count n : ℕ) : Type 0 where
  pub some : 1 ≤ n
  pub short : n ≤ 9999
  pub fresh : met n ≡ false
  pub left : count < 512

not_wrong : (met : ℕ → Bool) (count : ℕ) (x : Figures) → count < 512 → wrong_ident met x ≡ false → GoodIdent met count x.size
unfolding wrong_ident
not_wrong met count x l = by (ltb 4 x.count) (ltb x.size 10000) (eqb x.size 0) (met x.size) refl refl refl where
  by : (p q r m : Bool) → ltb x.size 10000 ≡ q → eqb x.size 0 ≡ r → met x.size ≡ m
      → cond p true (cond q (r || m) true) ≡ false → GoodIdent met count x.size
  by true q r m a b c e = none cc
  by false false r m a b c e = none cc
  by false true true m a b c e = none cc
  by false true false true a b c e = none cc
  by false true false false a b c e =
      let h = ltb-true x.size 10000 a in
      let k = eqb-false x.size 0 b in
      record { some = omega arith; short = omega arith; fresh = c; left = l }

ident_judged : (met : ℕ → Bool) (count : ℕ) (i : OrFault Figures) (y : Figures) → judge_ident met count i ≡ Ok y
    → GoodIdent met count y.size
unfolding judge_ident
ident_judged met count (Err f) y e = none cc
ident_judged met count (Ok x) y e = by (wrong_ident met x) (leb 512 count) refl refl e where
  by : (p q : Bool) → wrong_ident met x ≡ p → leb 512 count ≡ q
      → cond p (Err (fault 5 x.place)) (cond q (Err (fault 8 x.place)) (Ok x)) ≡ Ok y
      → GoodIdent met count y.size
  by true q a b e = none cc
  by false true a b e = none cc
  by false false a b e = let j : x ≡ y = cc in rw (← j) (not_wrong met count x (leb-false 512 count b) a)

-- ---- tests
or_else : (a b : Bool) → (a ≡ false → b ≡ true) → (a || b) ≡ true
or_else true b f = refl
or_else false b f = f refl

flag_low : (b : Bool) → leb (flag_of b) 1 ≡ true
unfolding flag_of
flag_low true = refl
flag_low false = refl

-- ---- the lines
-- behind the four numbers of a line stand those of the next one
next_line : (s : Said) (l : List Said) (k : ℕ) → line_at (cells_of (s ∷ l)) (4 * suc k) ≡ line_at (cells_of l) (4 * k)
unfolding cells_of line_cells line_at
next_line s l k =
    let a : 4 * suc k ≡ suc (suc (suc (suc (4 * k)))) = omega arith in
    let b : 4 * suc k + 1 ≡ suc (suc (suc (suc (4 * k + 1)))) = omega arith in
    let c : 4 * suc k + 2 ≡ suc (suc (suc (suc (4 * k + 2)))) = omega arith in
    let e : 4 * suc k + 3 ≡ suc (suc (suc (suc (4 * k + 3)))) = omega arith in
    rw (b, c, e, a)

line_plain_lem : {l : List Said} → EachGood l → (k : ℕ) → k < length l → line_plain (line_at (cells_of l) (line_size * k)) ≡ true
unfolding cells_of line_cells line_at count_of
line_plain_lem each.none k h = absurd (omega arith)
line_plain_lem (each.more {s} g m) zero h =
    and_true _ _ (and_true _ _ (le-leb s.special 1 g.special) (le-leb s.text.place 1048576 g.text_place))
    (le-leb s.text.length 1048576 g.text_length)
line_plain_lem (each.more {s} {l} g m) (suc k) h = ap line_plain (next_line s l k) ∙ line_plain_lem m k (omega arith)

module _ (f : ℕ → ℤ) (n : ℕ) (differ : (i j : ℕ) → i < j → j < n → eq_z (f i) (f j) ≡ false) where
  unlike_earlier : (k j : ℕ) → j < k → k < n → unlike f k j ≡ true
  unlike_earlier k j h l = by (eq_z (f k) (f j)) refl where
    by : (b : Bool) → eq_z (f k) (f j) ≡ b → not b ≡ true
    by true e = let q : f k ≡ f j = same_true (f k) (f j) e in holds_not (rw q (same_self (f j))) (differ j k h l)
    by false e = refl

  all_differ_lem : all_differ f n ≡ true
  unfolding all_differ number_new
  all_differ_lem = all_of (number_new f) n (λ k l. all_of (unlike f k) k (λ j h. unlike_earlier k j h l))

-- ---- the columns
module _ (h : Head) (x : Telling) (before : ℕ) (g : GoodHead h) (s : GoodTelling h.kind before x) where
  abbrev plain : Columns
  plain = plain_columns h (counted_in before x) before

  abbrev full : Columns
  full = columns_in before (variable h x)

  -- how many lines the columns count
  abbrev counted : ℕ
  counted = before + length x.lines - before

  -- they differ from the plain ones in their width alone
  kind_same : kind_of full ≡ kind_of plain
  unfolding columns_in full_columns widened kind_of
  kind_same = refl

  widest_same : widest_of (row_of full) (number_at x.lines) ≡ widest_of (row_of plain) (number_at x.lines)
  unfolding columns_in full_columns widened kind_of row_of widest_of range_width
  widest_same = refl

  lacks : lacked_zero full ≡ true
  unfolding columns_in full_columns widened plain_columns counted_in flag_of
  lacks = and_true _ _ (and_true _ _ (or_else (eqb h.kind 3) _ plainly) (or_else (eqb h.kind 2) _ whole))
      (or_else (leb h.kind 3) _ valueless) where
        plainly : eqb h.kind 3 ≡ false → (eqb x.block.decimals 0 && eqb x.block.point 0) ≡ true
        plainly e = let z = s.block.category e in and_true _ _ (eq-eqb _ 0 z.0) (eq-eqb _ 0 z.1)

        whole : eqb h.kind 2 ≡ false → (eqb x.subfields 0 && eqb x.subwidth 0) ≡ true
        whole e = ⊎_elim (λ z. and_true _ _ (eq-eqb _ 0 z.0) (eq-eqb _ 0 z.1)) (λ z. absurd (eqb-false h.kind 2 e z.0))
            s.subfields

        valueless : leb h.kind 3 ≡ false → (eqb (flag_of x.block.ranged) 0 && eqb counted 0) ≡ true
        valueless e =
            let z = s.nothing (leb-false h.kind 3 e) in
            let f : eqb (flag_of x.block.ranged) 0 ≡ true = rw z.0 in
            and_true _ _ f (eq-eqb counted 0 (omega (arith, z.1)))

  points : point_given full ≡ true
  unfolding columns_in full_columns widened plain_columns counted_in
  points = or_else (eqb x.block.decimals 0) _ (λ e. ⊎_elim (λ z. absurd (eqb-false _ 0 e z)) (λ z. le-leb 1 _ z) s.block.pointed)

  shares : shares_given full ≡ true
  unfolding columns_in full_columns widened plain_columns counted_in
  shares =
      or_else (leb x.block.point 1) _
      (λ e. le-leb 1 x.block.decimals (s.block.shared (omega (arith, leb-false x.block.point 1 e, s.block.point_code))))

  valued : values_given full ≡ true
  unfolding columns_in full_columns widened plain_columns counted_in flag_of
  valued = or_else (leb 4 h.kind) _ (λ e. ⊎_elim ranged lined (s.something (omega (arith, leb-false 4 h.kind e)))) where
    ranged : x.block.ranged ≡ true → (eqb (flag_of x.block.ranged) 1 || leb 1 counted) ≡ true
    ranged z = rw z

    lined : 1 ≤ length x.lines → (eqb (flag_of x.block.ranged) 1 || leb 1 counted) ≡ true
    lined z = or_else (eqb (flag_of x.block.ranged) 1) _ (λ e. le-leb 1 counted (omega arith))

  counts : counts_good full ≡ true
  unfolding counts_good columns_in full_columns widened plain_columns counted_in
  counts =
      both_and (both_and (both_and (both_and (both_and (both_and (both_and
      (and_true _ _ (le-leb 1 h.kind g.kind_some) (le-leb h.kind 5 g.kind_few))
      (le-leb x.block.decimals 9 s.block.few_decimals))
      (flag_low x.block.ranged))
      (le-leb x.block.point 2 s.block.point_code))
      lacks) points) shares) valued

  lacks_range : range_lacked full ≡ true
  unfolding columns_in full_columns widened plain_columns counted_in flag_of
  lacks_range = by x.block.ranged refl where
    by : (b : Bool) → x.block.ranged ≡ b → (eqb (flag_of b) 1 || (eq_z x.block.from (pos 0) && eq_z x.block.to (pos 0))) ≡ true
    by true e = refl
    by false e = let z = s.block.unranged e in rw (z.0, z.1, same_self)

  ranges : range_good (row_of full) ≡ true
  unfolding columns_in full_columns widened row_of kind_of
  ranges = range_fits h x before g s

  fit : values_fit (kind_of full) (number_at x.lines) (length x.lines) ≡ true
  fit = rw kind_same (lines_fit h x before g s (number_at x.lines) (λ i l. refl))

  -- w: SIZE for CHARACTER, 1 for LOGICAL, else the widest number
  width_good_lem : (m : ℕ) → widest_of (row_of plain) (number_at x.lines) ≡ m
      → width_good (kind_of plain) (width_of (kind_of plain) (row_of plain) (number_at x.lines) x.size) m ≡ true
  unfolding width_good width_of plain_columns counted_in
  width_good_lem m e =
      kind_cases plain (λ k. width_good k (width_of k (row_of plain) (number_at x.lines) x.size) m ≡ true)
      (λ k. eq-eqb _ m e) (λ k n. eq-eqb _ m e) (λ k n. eq-eqb _ m e) (λ k. eq-eqb _ m e) character refl
    where
      character : plain.kind ≡ 4 → (leb 1 x.size && leb x.size 4096) ≡ true
      character k = and_true _ _ (le-leb 1 _ (s.sized k)) (le-leb _ 4096 s.size)

  wide : width_good (kind_of full) full.width (widest_of (row_of full) (number_at x.lines)) ≡ true
  unfolding columns_in full_columns widened counted_in
  wide = rw (kind_same, widest_same) (width_good_lem _ refl)

-- the places and lengths of a variable's texts, as those of any file that is read
pub record TextsShort (h : Head) : Type 0 where
  pub name : h.name.place ≤ 1048576
  pub name_len : h.name.length ≤ 1048576
  pub label : h.label.place ≤ 1048576
  pub label_len : h.label.length ≤ 1048576

-- the ident, the position, the subfields and the texts; by whatever road the variable came
module _ (h : Head) (x : Telling) (before : ℕ) (g : GoodHead h) (texts : TextsShort h) (some : 1 ≤ h.ident) (short : h.ident ≤ 9999)
    (s : GoodTelling h.kind before x) where
  spread_whole : beq (eqb x.subfields 0) (eqb x.subwidth 0) ≡ true
  spread_whole = ⊎_elim (λ z. rw (z.0, z.1)) (λ z.
      rw (ne_eqb x.subfields 0 (λ e. omega (arith, z.1)), ne_eqb x.subwidth 0 (λ e. omega (arith, z.2)))) s.subfields

  places : places_good (columns_in before (variable h x)) ≡ true
  unfolding places_good columns_in full_columns widened plain_columns counted_in
  places =
      both_and (both_and (both_and
      (and_true _ _ (le-leb 1 h.ident some) (le-leb h.ident 9999 short))
      (and_true _ _ (and_true _ _ (le-leb 1 h.start g.from_one) (le-leb h.start h.finish g.ordered))
      (le-leb h.finish 16384 g.low)))
      spread_whole)
      (and_true _ _ (and_true _ _ (and_true _ _ (le-leb _ 1048576 texts.name) (le-leb _ 1048576 texts.name_len))
      (le-leb _ 1048576 texts.label)) (le-leb _ 1048576 texts.label_len))

  pub variable_good : holds_in before (variable h x) ≡ true → GoodVariable before (variable h x)
  variable_good e =
      record {
        counts = counts h x before g s;
        places = places;
        lacked = lacks_range h x before g s;
        range = ranges h x before g s;
        plain = all_of (λ j. line_plain (line_at (cells_of x.lines) (line_size * j))) (length x.lines) (line_plain_lem s.lines.each);
        fits = fit h x before g s;
        differ = all_differ_lem (number_at x.lines) (length x.lines) s.lines.differ;
        width = wide h x before g s;
        holds = e;
        few = s.lines.few;
      }

-- ---- the whole variable
module _ (d : List ℕ) (t : OrFault ℕ) (met : ℕ → Bool) (count before : ℕ) where
  -- "POSITION must hold w", else 7 at the first POSITION number
  pub narrow_is_7 :
      (h : Head) (x : Telling) (n : ℕ)
      → head_on d (ident_on d t met count) ≡ Ok h
      → rest_of d before h.kind (Ok h.next) (h.finish + 1 - h.start) ≡ told.Is x
      → end_variable d x.next ≡ Ok n
      → holds_in before (variable h x) ≡ false
      → entry_of d t met count before ≡ entry.Not (fault 7 h.place)
  unfolding entry_of rest_then held_by
  narrow_is_7 h x n a b c e = rw (a, b, c, e)

  module _ (v : Variable) (n : ℕ) (long : length d ≤ 1048576) (few : before ≤ 4096) where
    -- what the text gave of its head
    own : {h : Head} → heads.GoodHead d (ident_on d t met count) h → GoodHead h
    own g = record { kind_some = g.kind_some; kind_few = g.kind_few; from_one = g.from_one; ordered = g.ordered; low = g.low }

    texts : {h : Head} → heads.GoodHead d (ident_on d t met count) h → TextsShort h
    texts g = record {
      name = omega (arith, g.name, long);
      name_len = omega (arith, g.name_len, long);
      label = omega (arith, g.label, long);
      label_len = omega (arith, g.label_len, long);
    }

    held_good :
        (h : Head) (x : Telling) (m : ℕ)
        → heads.GoodHead d (ident_on d t met count) h
        → GoodTelling h.kind before x
        → held_by before (variable h x) m ≡ entry.Is v n
        → EntryGood met count before v
    unfolding held_by ident_on
    held_good h x m g s = by (holds_in before (variable h x)) refl where
      ident : GoodIdent met count h.ident
      ident = rw g.ident (ident_judged met count _ g.figures g.given)

      by : (b : Bool) → holds_in before (variable h x) ≡ b
          → cond b (entry.Is (variable h x) m) (entry.Not (fault 7 h.place)) ≡ entry.Is v n → EntryGood met count before v
      by false o e = none cc
      by true o e =
          let j : variable h x ≡ v = cc in
          rw (← j) (record {
            good = variable_good h x before (own g) (texts g) ident.some ident.short s o;
            fresh = ident.fresh;
            left = ident.left;
          })

    rest_then_lem : (h : Head) → heads.GoodHead d (ident_on d t met count) h → rest_then d before h ≡ entry.Is v n
        → EntryGood met count before v
    unfolding rest_then
    rest_then_lem h g = by (rest_of d before h.kind (Ok h.next) (h.finish + 1 - h.start)) refl where
      end : (x : Telling) (r : OrFault ℕ) → GoodTelling h.kind before x → ended r (held_by before (variable h x)) ≡ entry.Is v n
          → EntryGood met count before v
      end x (Ok m) s e = held_good h x m g s e
      end x (Err f) s e = none cc

      by : (o : Told) → rest_of d before h.kind (Ok h.next) (h.finish + 1 - h.start) ≡ o
          → told_then o (λ x. ended (end_variable d x.next) (held_by before (variable h x))) ≡ entry.Is v n → EntryGood met count before v
      by (told.Not f) i e = none cc
      by (told.Is x) i e =
          let s = rest_good d before long few (λ q t b l n v. values_good_lem d q before t long few v) h.kind (Ok h.next)
          (h.finish + 1 - h.start) x g.kind_some g.kind_few (omega (arith, g.ordered)) i in
          end x (end_variable d x.next) s e

-- a variable that was read is good
pub entry_good :
    (d : List ℕ) (t : OrFault ℕ) (met : ℕ → Bool) (count before : ℕ) (v : Variable) (n : ℕ)
    → length d ≤ 1048576
    → before ≤ 4096
    → entry_of d t met count before ≡ entry.Is v n
    → EntryGood met count before v
unfolding entry_of
entry_good d t met count before v n long few = by (head_on d (ident_on d t met count)) refl where
  by : (q : OrFault Head) → head_on d (ident_on d t met count) ≡ q → head_then q (rest_then d before) ≡ entry.Is v n
      → EntryGood met count before v
  by (Err f) i e = none cc
  by (Ok h) i e = rest_then_lem d t met count before v n long few h (head_good d (ident_on d t met count) h i) e

-- no variable is a 513th
pub entry_left : (d : List ℕ) (t : OrFault ℕ) (met : ℕ → Bool) (count before : ℕ) (v : Variable) (n : ℕ) → entry_of d t met count before
    ≡ entry.Is v n → count < 512
unfolding entry_of ident_on
entry_left d t met count before v n = by (head_on d (ident_on d t met count)) refl where
  by : (q : OrFault Head) → head_on d (ident_on d t met count) ≡ q → head_then q (rest_then d before) ≡ entry.Is v n → count < 512
  by (Ok h) i e =
      let g = head_good d (ident_on d t met count) h i in
      (ident_judged met count _ g.figures g.given).left
  by (Err f) i e = none cc
