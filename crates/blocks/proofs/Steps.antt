-- A line more: what the code does with it in the room is what the rule does with the block.
use mathlib.Core.Path.{◌≡◌, refl, ◌∙◌, ap}
use mathlib.Core.Bool.{Bool, true, false, cond}
use mathlib.Core.List.{List, [], ◌∷◌, ◌++◌}
use mathlib.Core.Option.{Option, none, some}
use Prim.Native.Nat.{ℕ, ◌+◌, ◌-◌, ◌*◌, ◌≤◌, ◌<◌}
use native.Mathlib.Omega.{arith}
use lib.Dec.{eqb}
use lib.IntN.{ℤ}
use lib.ListN.{length, set}
use borrow.Author.Tests.{leb-false}
use Rattle.cells.specs.rule.Cell.{pasted}
use Rattle.ranks.specs.declared.Found.{Found}
use Rattle.tags.specs.rule.Tag.{tag_of}
use Rattle.tags.specs.declared.Held.{Held}
use Rattle.tags.specs.declared.Tag.{Tag}
use Rattle.tags.specs.declared.Tag.TheVariants as tag
use Rattle.tokens.specs.rule.Gap.{fault, OrFault}
use Rattle.values.specs.declared.Block as books
use Rattle.values.specs.Value.{scaled_of}
use Rattle.values.specs.Line.{judge_line, grown_by, line_cells}
use Rattle.values.specs.Room.{room_at, slot_of, judged_room, judged_marks}
use Rattle.values.proofs.Lists.{none_held, judged_here, one_more}
use Rattle.survey.specs.rule.Survey.{Amount, Range, Line, Block}
use Rattle.survey.specs.rule.Width.{flag, some_of, amounts, scaled}
use Rattle.survey.specs.rule.Table.{ranged}
use Rattle.reading.specs.rule.Result.{Result, Is, Not, bind}
use Rattle.reading.specs.rule.Least.{judged}
use Rattle.reading.specs.rule.Values.{large, unlike_amounts, line_charges, with_line, unlisted}
use Rattle.bridge.specs.Lowest.{never, Clear, clear, Judged, fine, faulty, judged_view}
use Rattle.bridge.specs.Blocks.{small, Kept, kept_more}
use Rattle.xml_reading.specs.rule.Word.{VALUE, CODE}
use Rattle.xml_reading.specs.rule.Open.{unknown_at, on_tag}
use Rattle.xml_reading.specs.rule.Element.{Body, amount_in, body}
use Rattle.xml_reading.specs.rule.Block.{rich, line}
use Rattle.blocks.specs.Code.{held_as, has_range, block_of, said_of, told, Small, verdict_of, placed_of}
use Rattle.blocks.specs.Lines.{Wording, line_from, said_for, wording, Lines, Went}
use Rattle.blocks.specs.declared.Lined.TheVariants as lined
use Rattle.blocks.proofs.Charges.{Late, judged_split, judged_clear}
use Rattle.blocks.proofs.Told.{told_more, told_count, small_more, line_judged}

-- ---- what the books keep of a block is all of it that they hold
abbrev booked : Bool → ℤ → ℤ → Bool → ℕ → ℕ → books.Block
booked r f t k d p = record { ranged = r; from = f; to = t; known = k; decimals = d; point = p }

range_told : (b : Bool) (r : Option Range) → flag b ≡ ranged r → b ≡ has_range r
range_told true none e = absurd (omega arith)
range_told false none e = refl
range_told true (some r) e = refl
range_told false (some r) e = absurd (omega arith)

pub kept_is : {b : books.Block} {c : Block} → Kept b c → b ≡ block_of c
unfolding block_of
kept_is {b} {c} k = all where
  all : booked b.ranged b.from b.to b.known b.decimals b.point ≡ block_of c
  all = rw (range_told b.ranged c.range k.ranged, k.from, k.to, k.known, k.decimals, k.point)

-- ---- a line is read, and then judged
module _ (bad : Bool) (d : List ℕ) (languages quantity : Bool) (before : ℕ) (c : Block) (p e : ℕ) where
  abbrev worded : Held → Body → Wording
  worded h t = record { value = amount_in d h.a h.ae; text = t.text; charges = unknown_at h.unknown ∷ t.charges }

  abbrev judge : Wording → ℕ → Result Line
  judge w n = judged (line_charges quantity before c w.value ++ w.charges) (line_from w) n

  pub line_is : line bad d languages quantity before c p e ≡ bind (wording bad d languages p e) judge
  unfolding line wording
  line_is = by (tag_of bad d p e CODE [] [] 2 0 0 1) where
    on : (h : Held) (r : Result Body) → bind r (λ t. judge (worded h t)) ≡ bind (bind r (λ t n. Is (worded h t) n)) judge
    on h (Is t m) = refl
    on h (Not f) = refl

    by : (t : Tag) → on_tag bad d t (λ h empty q n. bind (body bad d VALUE (rich languages) empty n) (λ t. judge (worded h t)))
        ≡ bind (on_tag bad d t (λ h empty q n. bind (body bad d VALUE (rich languages) empty n) (λ t n. Is (worded h t) n))) judge
    by (tag.Read h empty q n) = on h (body bad d VALUE (rich languages) empty n)
    by (tag.Fault k q) = refl

-- ---- nothing read yet
pub none_lines : (quantity : Bool) (before : ℕ) (start : List ℤ) (stamp : ℕ) (marks : List ℕ) {b : books.Block} {r : Option Range}
    → before ≤ 4096 → length start ≡ 16384 → length marks ≡ 16384 → Kept b (unlisted r)
    → Lines quantity before start start stamp marks before b (unlisted r)
unfolding told Small some_of
none_lines quantity before start stamp marks h i j k = record {
  holds = none_held 16384 before start stamp marks h (omega arith) i j;
  kept = k;
  small = refl;
}

-- ---- a line more
module _ {quantity : Bool} {before : ℕ} {start room : List ℤ} {stamp : ℕ} {marks : List ℕ} {last : ℕ} {b : books.Block} {c : Block}
    (h : Lines quantity before start room stamp marks last b c) (w : Wording) (n : ℕ) where
  abbrev a : Amount
  a = w.value

  abbrev x : Line
  x = line_from w

  judged_so : judge_line (room_at room before) (last - before) before quantity b (held_as a)
      ≡ verdict_of (judged (line_charges quantity before c a) x n)
  judged_so =
      judged_here h.holds quantity b (held_as a) ∙ line_judged quantity before b c h.kept h.small x n

  -- what a line that stands is known to say
  record Free : Type 0 where
    alike : some_of (unlike_amounts a) (amounts c) ≡ false
    fits : large quantity a ≡ false
    few : before + length c.lines < 4096

  free : Clear (line_charges quantity before c a) → Free
  unfolding line_charges
  free (clear p (clear q (clear r (clear s (clear t u))))) = record
      { alike = q; fits = s; few = leb-false 4096 (before + length c.lines) t }

  grown_is : Free → Kept (grown_by b (held_as a)) (with_line c x)
  grown_is f = kept_more a w.text false a.place a.end a.end h.kept f.alike

  cells_same : line_cells (said_for w n) ≡ line_cells (said_of x)
  unfolding line_cells scaled_of
  cells_same = refl

  number_same : Free → scaled a ≡ scaled_of (held_as a)
  unfolding scaled_of
  number_same f = rw (small quantity a f.fits)

  stands : Free → Lines quantity before start (pasted room (4 * last) (line_cells (said_for w n))) stamp
      (set marks (slot_of (scaled a)) stamp)
      (last + 1)
      (block_of (with_line c x)) (with_line c x)
  unfolding scaled_of
  stands f =
      let k = grown_is f in
      let few : last < 4096 = omega (arith, h.holds.count, told_count c.lines, f.few) in
      let m = one_more h.holds (said_of x) few (omega arith) in
      record {
        holds = rw (cells_same, number_same f, told_more c.lines x) m;
        kept = rw (← kept_is k) k;
        small = small_more quantity c.lines x h.small f.fits;
      }

  abbrev more : Line → ℕ → Result Block
  more l m = Is (with_line c l) m

  pub line_went : (top : ℕ) (y : Found) → (Clear w.charges → n ≤ top) → Late 51 w.charges
      → judged w.charges x n ≡ cond (eqb y.number 0) (Is x n) (Not (fault y.number y.place))
      → (v : OrFault ℤ) → v ≡ judge_line (room_at room before) (last - before) before quantity b (held_as a)
      → Went top quantity before start (judged_room room last (said_for w n) v) stamp (judged_marks marks stamp v) last
      (bind (judged (line_charges quantity before c a ++ w.charges) x n) more) (placed_of b (said_for w n) y v)
  unfolding line_charges
  line_went top y ends late found v e =
      rw (judged_split 51 (line_charges quantity before c a) w.charges
      (omega arith, (omega arith, (omega arith, (omega arith, (omega arith, tt))))) late x n)
      (rw (e ∙ judged_so) (by (judged_view (line_charges quantity before c a) x n)))
    where
      found_on : (q : Bool) → Free → judged w.charges x n ≡ cond q (Is x n) (Not (fault y.number y.place))
          → Went top quantity before start (pasted room (4 * last) (line_cells (said_for w n))) stamp (set marks (slot_of (scaled a)) stamp)
          last
          (bind (cond q (Is x n) (Not (fault y.number y.place))) more)
          (cond q (lined.Is (grown_by b (held_as a)) n) (lined.Not (fault y.number y.place)))
      found_on true f g = record {
        answer = ap (λ (k : books.Block). lined.Is k n) (kept_is (grown_is f));
        lines = λ {c = c'} {n = n'} i. let j : with_line c x ≡ c' = cc in rw (← j) (stands f);
        next = λ {c = c'} {n = n'} i. let j : n ≡ n' = cc in rw (← j) (ends (judged_clear w.charges x n g).0);
      }
      found_on false f g = record { answer = refl; lines = λ {c = c'} {n = n'} i. never cc; next = λ {c = c'} {n = n'} i. never cc }

      by : {r : Result Line} → Judged (line_charges quantity before c a) x n r
          → Went top quantity before start (judged_room room last (said_for w n) (verdict_of r)) stamp
          (judged_marks marks stamp (verdict_of r))
          last
          (bind (bind r (λ l m. judged w.charges l m)) more) (placed_of b (said_for w n) y (verdict_of r))
      by (fine k) = rw found (found_on (eqb y.number 0) (free k) found)
      by faulty = record { answer = refl; lines = λ {c = c'} {n = n'} i. never cc; next = λ {c = c'} {n = n'} i. never cc }
