-- Lines one after the other: what is stored fits; and what the code does with one line in the room is what the definition does with
-- the list of lines.
use Rattle.std.specs.Prelude.{Ok, Err}
use mathlib.Core.Path.{◌≡◌, refl, ◌∙◌, sym, ap}
use mathlib.Core.Bool.{Bool, true, false, cond}
use mathlib.Core.List.{List, [], ◌∷◌, ◌++◌}
use Prim.Native.Nat.{ℕ, ◌+◌, ◌*◌, ◌-◌, ◌≤◌, ◌<◌}
use native.Mathlib.Omega.{arith}
use lib.Dec.{leb, eqb}
use lib.IntN.{ℤ}
use lib.ListN.{length, set, length-set}
use borrow.Author.Tests.{leb-false, eqb-true}
use Rattle.cells.specs.rule.Cell.{pasted}
use Rattle.cells.specs.Cell.{paste_more, paste_none}
use Rattle.scan.specs.rule.Loop.{Again, Done}
use Rattle.scan.proofs.Loops.{loop_again, loop_done}
use Rattle.tokens.specs.declared.Fault.{Fault}
use Rattle.tokens.specs.declared.Choice.{Choice}
use Rattle.tokens.specs.declared.Choice.TheVariants.{Taken, Left}
use Rattle.tokens.specs.declared.Value.{Value}
use Rattle.tokens.specs.declared.Quoted.{Quoted}
use Rattle.tokens.specs.rule.Gap.{fault, OrFault}
use Rattle.tokens.specs.Gap.{gap_on}
use Rattle.tokens.specs.Token.{choice_of, past_value, string_on, past_string}
use Rattle.tokens.proofs.Aheads.{quoted_within}
use Rattle.statements.specs.rule.Words.{SPECIAL}
use Rattle.values.specs.Value.{scaled_of}
use Rattle.values.specs.declared.Block.{Block}
use Rattle.values.specs.declared.Said.{Said}
use Rattle.values.specs.declared.Turn.{Turn}
use Rattle.values.specs.declared.Turn.TheVariants as turn
use Rattle.values.specs.declared.Listed.TheVariants as listed
use Rattle.values.specs.Line.{Given, Is, Not, said_of, special_or, line_rest, number_on, number_at, repeated_in, line_fault}
use Rattle.values.specs.Line.{judge_line, grown_by, line_cells, cells_of, more_of, Listing, state_of, after, judged_step, read_step}
use Rattle.values.specs.Line.{line_step, lines_from}
use Rattle.values.specs.Line.{listed_of, Stored}
use Rattle.values.specs.Block.{closed_by}
use Rattle.values.specs.Room.{room_at, slot_of, Marked, storable, judged_turn, judged_room, judged_marks, Standing, stand_at, judged_at}
use Rattle.values.specs.Room.{read_turn, read_room, read_marks, turn_of, room_after, marks_after, Spare}
use Rattle.values.specs.Good.{GoodLine}
use Rattle.values.proofs.Facts.{repeated_alike, marked_more}
use Rattle.values.proofs.Rooms.{line_length, cells_length, cells_more, count_more, number_before, number_last, length_pasted}
use Rattle.values.proofs.Rooms.{room_number}

-- ---- a line that stands: it says the number that was read, nothing is wrong with that, it repeats none, and it is no 4,097th
pub record Stands (f : ℕ → ℤ) (n first : ℕ) (quantity : Bool) (b : Block) (v : Value) (z : ℤ) : Type 0 where
  pub says : z ≡ scaled_of v
  pub sound : line_fault quantity b v ≡ 0
  pub fresh : repeated_in f n (scaled_of v) ≡ false
  pub few : first + n < 4096

pub good_line : (f : ℕ → ℤ) (n first : ℕ) (quantity : Bool) (b : Block) (v : Value) {z : ℤ} → judge_line f n first quantity b v ≡ Ok z
    → Stands f n first quantity b v z
unfolding judge_line
good_line f n first quantity b v {z} = by (eqb (line_fault quantity b v) 0) (repeated_in f n (scaled_of v)) (leb 4096 (first + n)) refl refl
    refl where
      by : (x y w : Bool) → eqb (line_fault quantity b v) 0 ≡ x → repeated_in f n (scaled_of v) ≡ y → leb 4096 (first + n) ≡ w
          → cond x (cond y (Err (fault 6 v.place)) (cond w (Err (fault 8 v.place)) (Ok (scaled_of v))))
          (Err (fault (line_fault quantity b v) v.place)) ≡ Ok z → Stands f n first quantity b v z
      by false y w h k g e = let z : ◌≡◌ {A = ℕ} 0 1 = cc in absurd (omega arith)
      by true true w h k g e = let z : ◌≡◌ {A = ℕ} 0 1 = cc in absurd (omega arith)
      by true false true h k g e = let z : ◌≡◌ {A = ℕ} 0 1 = cc in absurd (omega arith)
      by true false false h k g e = record {
        says = cc;
        sound = eqb-true (line_fault quantity b v) 0 h;
        fresh = k;
        few = leb-false 4096
            (first + n) g;
      }

-- a line is judged by the numbers of those before it
pub judge_alike : (f g : ℕ → ℤ) (n first : ℕ) (quantity : Bool) (b : Block) (v : Value) → ((i : ℕ) → i < n → f i ≡ g i)
    → judge_line f n first quantity b v ≡ judge_line g n first quantity b v
unfolding judge_line
judge_alike f g n first quantity b v h = rw (repeated_alike f g n (scaled_of v) h)

-- ---- what a line says: its value is the one that stood there, and the rest fits the table
abbrev said : Value → Quoted → ℕ → ℕ → Said
said v q n m = record { value = v; text = q; special = n; next = m }

said_parts : (a : OrFault Value) (q : OrFault Quoted) (n : ℕ) (end : OrFault ℕ) (s : Said) → said_of a q n end ≡ Ok s → (a ≡ Ok s.value)
    × (q ≡ Ok s.text) × (s.special ≡ n)
unfolding said_of
said_parts (Err f) q n end s e = let z : ◌≡◌ {A = ℕ} 0 1 = cc in absurd (omega arith)
said_parts (Ok v) (Err f) n end s e = let z : ◌≡◌ {A = ℕ} 0 1 = cc in absurd (omega arith)
said_parts (Ok v) (Ok q) n (Err f) s e = let z : ◌≡◌ {A = ℕ} 0 1 = cc in absurd (omega arith)
said_parts (Ok v) (Ok q) n (Ok m) s e = let j : said v q n m ≡ s = cc in rw (← j) (refl, refl, refl)

module _ (d : List ℕ) (a : OrFault Value) (s : Said) where
  pub line_value_lem : line_rest d a ≡ Ok s → a ≡ Ok s.value
  unfolding line_rest
  line_value_lem = by (choice_of d (gap_on d (past_string (string_on d (past_value a)))) SPECIAL) where
    by : (k : Choice) → special_or a (string_on d (past_value a)) (gap_on d (past_string (string_on d (past_value a)))) k ≡ Ok s → a
        ≡ Ok s.value
    by (Taken m) e = (said_parts a (string_on d (past_value a)) 1 (Ok m) s e).0
    by Left e = (said_parts a (string_on d (past_value a)) 0 (gap_on d (past_string (string_on d (past_value a)))) s e).0

module _ (d : List ℕ) (a : OrFault Value) (s : Said) (h : length d ≤ 1048576) where
  within : (q : OrFault Quoted) (n : ℕ) → q ≡ string_on d (past_value a) → n ≤ 1 → (a ≡ Ok s.value) × (q ≡ Ok s.text)
      × (s.special ≡ n) → GoodLine s
  within q n e l p =
      let k = quoted_within d (past_value a) s.text (sym e ∙ p.1) in
      record { special = omega (arith, p.2); text_place = omega (arith, k.0); text_length = omega (arith, k.1) }

  pub line_good : line_rest d a ≡ Ok s → GoodLine s
  unfolding line_rest
  line_good = by (choice_of d (gap_on d (past_string (string_on d (past_value a)))) SPECIAL) where
    by : (k : Choice) → special_or a (string_on d (past_value a)) (gap_on d (past_string (string_on d (past_value a)))) k ≡ Ok s
        → GoodLine s
    by (Taken m) e = within (string_on d (past_value a)) 1 refl (omega arith) (said_parts a (string_on d (past_value a)) 1 (Ok m) s e)
    by Left e = within (string_on d (past_value a)) 0 refl (omega arith)
        (said_parts a (string_on d (past_value a)) 0 (gap_on d (past_string (string_on d (past_value a)))) s e)

  pub line_storable : line_rest d a ≡ Ok s → storable s
  line_storable e =
      let g = line_good e in
      record { special = omega (arith, g.special); place = omega (arith, g.text_place); length = omega (arith, g.text_length) }

-- ---- where the code stands, beside the list of lines that the definition has, in a room of n numbers
pub record Holds (n first : ℕ) (start room : List ℤ) (stamp : ℕ) (marks : List ℕ) (last : ℕ) (l : List Said) : Type 0 where
  pub count : last ≡ first + length l
  pub most : last ≤ 4096
  pub begin : length start ≡ n
  pub kept : length room ≡ n
  pub enough : 4 * last ≤ n
  pub here : room ≡ pasted start (4 * first) (cells_of l)
  pub slots : length marks ≡ 16384
  pub marked : Marked (number_at l) (length l) stamp marks

module _ {n first : ℕ} {start room : List ℤ} {stamp : ℕ} {marks : List ℕ} {last : ℕ} {l : List Said}
    (h : Holds n first start room stamp marks last l) where
  fits : 4 * first + length (cells_of l) ≤ length start
  fits = omega (arith, cells_length l, h.count, h.enough, h.begin)

  pub so_far : last - first ≡ length l
  so_far = omega (arith, h.count)

  -- the room has the numbers of the lines
  pub number_here_lem : (i : ℕ) → i < length l → room_at room first i ≡ number_at l i
  unfolding room_at
  number_here_lem i k = rw h.here (room_number start first l (omega (arith, h.count, h.enough, h.begin)) i k)

  pub marked_here : Marked (room_at room first) (last - first) stamp marks
  marked_here = record { left = λ i k. rw (number_here_lem i (omega (arith, so_far))) (h.marked.left i (omega (arith, so_far))) }

  pub judged_here : (quantity : Bool) (b : Block) (v : Value) → judge_line (room_at room first) (last - first) first quantity b v
      ≡ judge_line (number_at l) (length l) first quantity b v
  judged_here quantity b v = rw so_far (judge_alike (room_at room first) (number_at l) (length l) first quantity b v number_here_lem)

  -- one line more
  pub one_more : (s : Said) → last < 4096 → 4 * last + 4 ≤ n → Holds n first start (pasted room (4 * last) (line_cells s)) stamp
      (set marks (slot_of (number_on s)) stamp) (last + 1) (l ++ s ∷ [])
  one_more s k w = record {
    count = omega (arith, h.count, count_more l s);
    most = omega arith;
    begin = h.begin;
    kept = length_pasted room (line_cells s) (4 * last) room_left ∙ h.kept;
    enough = omega arith;
    here = placed;
    slots = simp length-set h.slots;
    marked = rw (count_more l s) (marked_more (number_at (l ++ s ∷ [])) (length l) stamp marks (number_on s) h.slots
        (sym (number_last l s)) before);
  }
    where
      room_left : 4 * last + length (line_cells s) ≤ length room
      room_left = omega (arith, h.kept, line_length s)

      placed : pasted room (4 * last) (line_cells s) ≡ pasted start (4 * first) (cells_of (l ++ s ∷ []))
      placed =
          let e : 4 * last ≡ 4 * first + length (cells_of l) = omega (arith, h.count, cells_length l) in
          rw (e, h.here, cells_more l s) (paste_more start (cells_of l) (line_cells s) (4 * first) fits)

      before : Marked (number_at (l ++ s ∷ [])) (length l) stamp marks
      before = record { left = λ i j. rw (number_before l s i j) (h.marked.left i j) }

pub none_held : (n first : ℕ) (start : List ℤ) (stamp : ℕ) (marks : List ℕ) → first ≤ 4096 → 4 * first ≤ n → length start ≡ n
    → length marks ≡ 16384 → Holds n first start start stamp marks first []
unfolding cells_of
none_held n first start stamp marks h w k m = record {
  count = omega arith;
  most = h;
  begin = k;
  kept = k;
  enough = w;
  here = paste_none start (4 * first);
  slots = m;
  marked = record { left = λ i j. absurd (omega arith) };
}

-- ---- one line: by what follows it, what the definition does, and where the code then stands
pub record Onward (d : List ℕ) (quantity : Bool) (n first : ℕ) (start room : List ℤ) (stamp : ℕ) (marks : List ℕ) (last : ℕ) (l : Listing)
    (t : Turn) : Type 0 where
  pub line : Said
  pub more : last < 4096
  pub step : line_step d quantity first l ≡ after (l.lines ++ line ∷ []) t
  pub holds : Holds n first start room stamp marks (last + 1) (l.lines ++ line ∷ [])

module _ (d : List ℕ) (quantity : Bool) (first : ℕ) (a : OrFault Value) (b : Block) {n : ℕ} {start room : List ℤ} {stamp : ℕ}
    {marks : List ℕ}
    {last : ℕ} {l : List Said} (h : Holds n first start room stamp marks last l) where
  abbrev at : Standing
  at = stand_at a b last room

  -- what follows a line is refused, or the line stands
  pub turned : Spare n last → (t : Turn) → t ≡ turn_of d quantity first at → ((f : Fault) → t ≡ turn.Not f → ⊥)
      → Onward d quantity n first start (room_after d quantity first at) stamp (marks_after d quantity first at marks stamp) last
      (state_of a b l) t
  unfolding turn_of room_after marks_after line_step
  turned w t = by (line_rest d a) refl where
    judged : (s : Said) (v : OrFault ℤ) → line_rest d a ≡ Ok s → judged_at quantity first at s ≡ v → t ≡ judged_turn d b s v
        → ((f : Fault) → t ≡ turn.Not f → ⊥) → Onward d quantity n first start (judged_room room last s v) stamp
        (judged_marks marks stamp v)
        last (state_of a b l) t
    judged s (Ok z) j i e o =
        let g = good_line (room_at room first) (last - first) first quantity b s.value i in
        let k : last < 4096 = omega (arith, g.few, so_far h, h.count) in
        record {
          line = s;
          more = k;
          step = rw (j, sym (judged_here h quantity b s.value) ∙ i, e);
          holds = rw g.says (one_more h s k (w.one_more k));
        }
    judged s (Err f) j i e o = absurd (o f e)

    by : (r : OrFault Said) → line_rest d a ≡ r → t ≡ read_turn d quantity first at r → ((f : Fault) → t ≡ turn.Not f → ⊥)
        → Onward d quantity n first start (read_room quantity first at r) stamp (read_marks quantity first at marks stamp r) last
        (state_of a b l) t
    by (Ok s) j e o = judged s (judged_at quantity first at s) j refl e o
    by (Err f) j e o = absurd (o f e)

  -- the same of what the code gave back
  module _ {t : Turn} {end : List ℤ} {ends : List ℕ} (e : t ≡ turn_of d quantity first at) (f : end ≡ room_after d quantity first at)
      (g : ends ≡ marks_after d quantity first at marks stamp) where
    pub went_more : Spare n last → {c : OrFault Value} {k : Block} → t ≡ turn.More c k
        → Onward d quantity n first start end stamp ends last (state_of a b l) (turn.More c k)
    went_more w i = rw (f, g) (turned w _ (sym i ∙ e) (λ q j. let z : ◌≡◌ {A = ℕ} 0 1 = cc in absurd (omega arith)))

    pub went_over : Spare n last → {k : Block} {m : ℕ} → t ≡ turn.Over k m
        → Onward d quantity n first start end stamp ends last (state_of a b l) (turn.Over k m)
    went_over w i = rw (f, g) (turned w _ (sym i ∙ e) (λ q j. let z : ◌≡◌ {A = ℕ} 0 1 = cc in absurd (omega arith)))

  -- a refusal of the code is one of the definition
  pub turned_not : {f : Fault} → turn.Not f ≡ turn_of d quantity first at → line_step d quantity first (state_of a b l) ≡ Done (Not f)
  unfolding turn_of line_step
  turned_not {f} = by (line_rest d a) where
    judged : (s : Said) (v : OrFault ℤ) → judge_line (number_at l) (length l) first quantity b s.value ≡ v → turn.Not f
        ≡ judged_turn d b s v
        → judged_step d (state_of a b l) s v ≡ Done (Not f)
    judged s (Ok z) i e = rw (sym e)
    judged s (Err g) i e = cc

    by : (r : OrFault Said) → turn.Not f ≡ read_turn d quantity first at r → read_step d quantity first (state_of a b l) r ≡ Done (Not f)
    by (Ok s) e = judged s (judge_line (number_at l) (length l) first quantity b s.value) refl
        (rw (judged_here h quantity b s.value) at e)
    by (Err g) e = cc

-- ---- all lines: the first, and then those behind it
module _ (d : List ℕ) (quantity : Bool) (first : ℕ) where
  abbrev left : Listing → ℕ
  left l = 4096 - (first + length l.lines)

  pub falls : (l m : Listing) → line_step d quantity first l ≡ Again m → left m < left l
  unfolding line_step
  falls l m = by (line_rest d l.amount) where
    on : (s : Said) (t : Turn) → first + length l.lines < 4096 → after (l.lines ++ s ∷ []) t ≡ Again m → left m < left l
    on s (turn.More a b) h e =
        let j : state_of a b (l.lines ++ s ∷ []) ≡ m = cc in
        rw (← j) (omega (arith, count_more l.lines s))
    on s (turn.Over b n) h e = let z : ◌≡◌ {A = ℕ} 0 1 = cc in absurd (omega arith)
    on s (turn.Not f) h e = let z : ◌≡◌ {A = ℕ} 0 1 = cc in absurd (omega arith)

    judged : (s : Said) (v : OrFault ℤ) → judge_line (number_at l.lines) (length l.lines) first quantity l.block s.value ≡ v
        → judged_step d l s v ≡ Again m → left m < left l
    judged s (Ok z) i e = on s (more_of d (grown_by l.block s.value) s.next)
        (good_line (number_at l.lines) (length l.lines) first quantity l.block s.value i).few e
    judged s (Err f) i e = let z : ◌≡◌ {A = ℕ} 0 1 = cc in absurd (omega arith)

    by : (r : OrFault Said) → read_step d quantity first l r ≡ Again m → left m < left l
    by (Ok s) e = judged s (judge_line (number_at l.lines) (length l.lines) first quantity l.block s.value) refl e
    by (Err f) e = let z : ◌≡◌ {A = ℕ} 0 1 = cc in absurd (omega arith)

  pub lines_more : (l : Listing) {m : Listing} → line_step d quantity first l ≡ Again m → lines_from d quantity first l
      ≡ lines_from d quantity first m
  unfolding lines_from
  lines_more l {m} e = loop_again (line_step d quantity first) (Not (fault 0 0)) left falls {s = l} {s' = m} e

  pub lines_done : (l : Listing) {g : Given} → line_step d quantity first l ≡ Done g → lines_from d quantity first l ≡ g
  unfolding lines_from
  lines_done l {g} e = loop_done (line_step d quantity first) (Not (fault 0 0)) left falls {s = l} {a = g} e

-- ---- what the code gives back
pub record Ran (d : List ℕ) (quantity : Bool) (n first stamp : ℕ) (start : List ℤ) (a₀ : OrFault Value) (b₀ : Block) (room : List ℤ)
    (marks : List ℕ)
    (a : OrFault Value) (b : Block) (last : ℕ) : Type 0 where
  pub lines : List Said
  pub same : lines_from d quantity first (state_of a₀ b₀ []) ≡ lines_from d quantity first (state_of a b lines)
  pub holds : Holds n first start room stamp marks last lines

pub listed_over : {k first : ℕ} {start room : List ℤ} {stamp : ℕ} {marks : List ℕ} {last : ℕ} {l : List Said} {g : Given} {b : Block}
    {n : ℕ}
    → g ≡ Is b l n → Holds k first start room stamp marks last l → (listed.Is b last n ≡ listed_of first g) × Stored first g start room
unfolding listed_of
listed_over {first} {start} {room} {l = l} {g = g} {b = b} {n = n} e h = (
  rw (e, h.count),
  record {
    stored = λ {b = b'} {l = l'} {n = n'} q. let j : l ≡ l' = cc in
        h.here ∙ ap (λ (x : List Said). pasted start (4 * first) (cells_of x)) j;
  },
)

pub stored_not : (first : ℕ) (f : Fault) (room end : List ℤ) → Stored first (Not f) room end
stored_not first f room end = record { stored = λ {b} {l} {n} q. let z : ◌≡◌ {A = ℕ} 0 1 = cc in absurd (omega arith) }

pub listed_not : {g : Given} {f : Fault} (first : ℕ) (room end : List ℤ) → g ≡ Not f → (listed.Not f ≡ listed_of first g)
    × Stored first g room end
unfolding listed_of
listed_not {f = f} first room end e = (rw e, rw e (stored_not first f room end))

-- a block without lines
pub listed_none : (first : ℕ) (b : Block) (n : ℕ) → listed.Is b first n ≡ listed_of first (Is b [] n)
unfolding listed_of
listed_none first b n = let e : first ≡ first + 0 = omega arith in ap (λ (k : ℕ). listed.Is b k n) e

pub stored_none : (first : ℕ) (b : Block) (t : OrFault ℕ) (room : List ℤ) → Stored first (closed_by b t) room room
unfolding closed_by cells_of
stored_none first b (Ok n) room =
    record {
      stored = λ {b = b'} {l = l'} {n = n'} q. let j : [] ≡ l' = cc in
          paste_none room (4 * first) ∙ ap (λ (x : List Said). pasted room (4 * first) (cells_of x)) j;
    }
stored_none first b (Err f) room = stored_not first f room room
