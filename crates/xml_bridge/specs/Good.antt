-- A VARIABLE OF THE RULE IS GOOD, as crate measures says it of one in the books: its row holds every clause of a well-formed table that
-- speaks
-- of one row. And variables one after the other in the rule's words and in the books.
use Rattle.std.specs.Prelude.{◌≡◌, refl, ◌⊎◌, Bool, true, false, List, [], ◌∷◌, ◌++◌, map, ℕ, ◌≤◌, eqb, length}
use Rattle.std.proofs.Common.{◌∙◌, inr, arith}
use Rattle.std.proofs.Math.Logic.{inl}
use Rattle.std.proofs.Math.Option.{Option}
use Rattle.values.specs.Good.{GoodBlock, GoodLines, GoodValues}
use Rattle.measures.specs.Survey.{holds_in}
use Rattle.measures.specs.Survey as book
use Rattle.measures.specs.Good.{GoodVariable}
use Rattle.entries.specs.Entry.{GoodHead}
use Rattle.entries.specs.Good.{GoodTelling}
use Rattle.entries.proofs.Goods.{variable_good}
use Rattle.survey.specs.rule.Survey.{Figure, Block, Spread, Content, single, multiple, quantity, character, logical, Variable}
use Rattle.survey.specs.rule.Width.{some_of, amounts, parts_of, finish_in, room_in, subwidth_of, no_block}
use Rattle.survey.specs.rule.Table.{type_of, spread_in, lines_of, lines_all, highest_in, all_lines, holds}
use Rattle.bridge.specs.Contents.{Parts, bits, fields}
use Rattle.xml_bridge.specs.Book.{block_as, saids, saids_count, saids_cells, head_with, telling_with, book_of}
use Rattle.xml_bridge.specs.Settle.{Told, as_single, as_multiple, as_quantity, as_character, as_logical, holds_with, told_exact}
use Rattle.xml_bridge.specs.Fine.{fine_block, fine_none}

none_of : {A : Type 0} → ◌≡◌ {A = ℕ} 0 1 → A
none_of e = absurd (omega arith)

-- ---- what a type has behind its position
pub data FineContent (before : ℕ) : Content → Type 0 where
  fine_single : {b : Block} → GoodValues false before (block_as b) (saids b.lines) → FineContent before (single b)
  fine_multiple : {s : Option Spread} {b : Block} → GoodValues false before (block_as b) (saids b.lines)
      → FineContent before (multiple s b)
  fine_quantity : {b : Block} → GoodValues true before (block_as b) (saids b.lines) → FineContent before (quantity b)
  fine_character : {n : Figure} → 1 ≤ n.value → n.value ≤ 4096 → FineContent before (character n)
  fine_logical : FineContent before logical

module _ (room before : ℕ) (few : before ≤ 4096) where
  empty_block_lem : (q : Bool) → GoodBlock q (block_as no_block)
  empty_block_lem q = fine_block q before no_block (fine_none q before few)

  empty_lines : (q : Bool) → GoodLines q before (saids [])
  empty_lines q = (fine_none q before few).lines

  parts_some : {c w : ℕ} {s : Option Spread} → Parts room c w s → ((c ≡ 0) × (w ≡ 0)) ⊎ ((◌≡◌ {A = ℕ} 2 2) × (1 ≤ c) × (1 ≤ w))
  parts_some bits = inl (refl, refl)
  parts_some (fields u v g h) = inr (refl, g, h)

  with_values : (kind c w : ℕ) (b : Block) → kind ≤ 3 → GoodValues (eqb kind 3) before (block_as b) (saids b.lines)
      → ((c ≡ 0) × (w ≡ 0)) ⊎ ((kind ≡ 2) × (1 ≤ c) × (1 ≤ w))
      → GoodTelling kind before (record { block = block_as b; lines = saids b.lines; subfields = c; subwidth = w; size = 0; next = 0 })
  with_values kind c w b k v s = record {
    block = v.block;
    lines = v.lines;
    near = v.near;
    something = λ h. v.something;
    nothing = λ h. absurd (omega arith);
    subfields = s;
    size = omega arith;
    sized = λ h. absurd (omega arith);
  }

  pub content_good : {c w : ℕ} {t : Content} → Told room c w t → FineContent before t → GoodTelling (type_of t) before (telling_with c w t)
  unfolding saids amounts some_of
  content_good (as_single {b = b}) (fine_single v) = with_values 1 0 0 b (omega arith) v (inl (refl, refl))
  content_good (as_multiple {c = c} {w = w} {s = s} {b = b} p) (fine_multiple v) = with_values 2 c w b (omega arith) v (parts_some p)
  content_good (as_quantity {b = b}) (fine_quantity v) = with_values 3 0 0 b (omega arith) v (inl (refl, refl))
  content_good as_character (fine_character g h) = record {
    block = empty_block_lem false;
    lines = empty_lines false;
    near = λ i l. absurd (omega arith);
    something = λ h. absurd (omega arith);
    nothing = λ h. (refl, refl);
    subfields = inl (refl, refl);
    size = h;
    sized = λ e. g;
  }
  content_good as_logical fine_logical = record {
    block = empty_block_lem false;
    lines = empty_lines false;
    near = λ i l. absurd (omega arith);
    something = λ h. absurd (omega arith);
    nothing = λ h. (refl, refl);
    subfields = inl (refl, refl);
    size = omega arith;
    sized = λ e. absurd (omega arith);
  }

-- ---- the whole variable
-- the places and lengths of its texts, as those of any file that is read
pub record ShortTexts (v : Variable) : Type 0 where
  pub name : v.name.place ≤ 1048576
  pub name_len : v.name.length ≤ 1048576
  pub label : v.label.place ≤ 1048576
  pub label_len : v.label.length ≤ 1048576

-- of a variable before whose lines `before` others stand, with c subfields of w bytes in the code's books
pub record FineVariable (before c w : ℕ) (v : Variable) : Type 0 where
  pub texts : ShortTexts v
  pub ident_some : 1 ≤ v.ident.value
  pub ident_short : v.ident.value ≤ 9999
  pub from_one : 1 ≤ v.start.value
  pub ordered : v.start.value ≤ finish_in v
  pub low : finish_in v ≤ 16384
  pub told : Told (room_in v) c w v.content
  pub content : FineContent before v.content

type_some : (t : Content) → (1 ≤ type_of t) × (type_of t ≤ 5)
type_some (single b) = (omega arith, omega arith)
type_some (multiple s b) = (omega arith, omega arith)
type_some (quantity b) = (omega arith, omega arith)
type_some (character n) = (omega arith, omega arith)
type_some logical = (omega arith, omega arith)

module _ (before c w : ℕ) (v : Variable) (few : before ≤ 4096) (f : FineVariable before c w v) where
  pub head_good : (i j : ℕ) → GoodHead (head_with i j v)
  head_good i j = record {
    kind_some = (type_some v.content).0;
    kind_few = (type_some v.content).1;
    from_one = f.from_one;
    ordered = f.ordered;
    low = f.low;
  }

  pub telling_good : GoodTelling (type_of v.content) before (telling_with c w v.content)
  telling_good = content_good (room_in v) before few f.told f.content

  pub good_book : holds v ≡ true → GoodVariable before (book_of v)
  good_book h =
      let e = told_exact 0 0 before v f.low f.told h in
      variable_good (head_with 0 0 v) (telling_with (parts_of (spread_in v.content)) (subwidth_of (room_in v) (spread_in v.content))
      v.content) before
      (head_good 0 0)
      (record { name = f.texts.name; name_len = f.texts.name_len; label = f.texts.label; label_len = f.texts.label_len })
      f.ident_some f.ident_short (rw (e.0, e.1) at telling_good) (holds_with 0 0 before v ∙ h)

-- ---- VARIABLES ONE AFTER THE OTHER, in the books
abbrev pub books_of : List Variable → List book.Variable
books_of l = map book_of l

pub books_count : (l : List Variable) → length (books_of l) ≡ length l
books_count [] = refl
books_count (v ∷ l) = rw (books_count l)

pub books_more : (l : List Variable) (v : Variable) → books_of (l ++ v ∷ []) ≡ books_of l ++ book_of v ∷ []
books_more [] v = refl
books_more (w ∷ l) v = rw (books_more l v)

pub books_lines : (l : List Variable) → book.lines_all (books_of l) ≡ lines_all l
unfolding book.lines_all lines_all
books_lines [] = refl
books_lines (v ∷ l) = rw (saids_count (lines_of v), books_lines l)

pub books_highest : (l : List Variable) → book.highest_in (books_of l) ≡ highest_in l
unfolding book.highest_in highest_in
books_highest [] = refl
books_highest (v ∷ l) = rw (books_highest l)

pub books_met : (l : List Variable) (n : ℕ) → book.ident_met (books_of l) n ≡ some_of (λ v. eqb v.ident.value n) l
unfolding book.ident_met some_of
books_met [] n = refl
books_met (v ∷ l) n = rw (books_met l n)

pub books_cells : (l : List Variable) → book.all_lines (books_of l) ≡ all_lines l
unfolding book.all_lines all_lines
books_cells [] = refl
books_cells (v ∷ l) = rw (saids_cells (lines_of v), books_cells l)
