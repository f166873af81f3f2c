-- What stands behind the position, by type.
use Rattle.std.specs.Prelude.{◌≡◌, Bool, List, [], ℕ, ◌≤◌, ◌<◌, Ok}
use Rattle.std.proofs.Math.Path.{refl}
use Rattle.std.proofs.Common.{◌∙◌, arith}
use Rattle.std.proofs.Math.Bool.{true, false}
use Rattle.std.proofs.Math.Option.{Option, none, some}
use Rattle.scan.specs.Number.{capped}
use Rattle.scan.specs.rule.Word.{word_at}
use Rattle.scan.specs.declared.Word.{Word}
use Rattle.scan.specs.declared.Word.TheVariants as spelled
use Rattle.tokens.specs.declared.Fault.{Fault}
use Rattle.tokens.specs.Token.{of_choice, choice_of}
use Rattle.statements.specs.rule.Words.{SPREAD}
use Rattle.statements.specs.Spread.{spread_rest}
use Rattle.statements.specs.Size.{size_on}
use Rattle.values.specs.Line.{Given}
use Rattle.values.specs.Block.{empty_block}
use Rattle.variables.specs.Rest.{Telling, Told, join_values, values_rest, join_size, join_nothing, spread_or, optional, spread_then}
use Rattle.variables.specs.Rest.{rest_of}
use Rattle.variables.specs.Rest as telling
use Rattle.entries.proofs.Spreads.{spread_good, size_good}
use Rattle.survey.specs.rule.Survey.{Figure, Block, Spread, Content, single, multiple, quantity, character, logical}
use Rattle.reading.specs.rule.Result.{Result, Is, Not, bind}
use Rattle.reading.specs.rule.Token.{on_word, either}
use Rattle.reading.specs.rule.Statement.{Position, notes, spread, size}
use Rattle.reading.specs.rule.Values.{values}
use Rattle.reading.specs.rule.Variable.{Sort, Single, Multiple, Quantity, Character, Logical, room, content}
use Rattle.bridge.specs.Facts.{capped_small}
use Rattle.bridge.specs.Tokens.{to_reading, to_number}
use Rattle.bridge.specs.Notes.{notes_on_lem}
use Rattle.bridge.specs.Statements.{even_or, to_spreading, spread_on, size_on_lem}
use Rattle.bridge.specs.Blocks.{SameLines, Kept}
use Rattle.bridge.specs.Lines.{bind_bind, SameGiven, gives, refuses}
use Rattle.bridge.specs.Values.{values_on_lem}
use Rattle.bridge.specs.Variables.{kind_of}

-- subfields and their width as the books have them, for a position of `room` bytes
pub data Parts (room : ℕ) : ℕ → ℕ → Option Spread → Type 0 where
  bits : Parts room 0 0 none
  fields : {s : Spread} {c w : ℕ} → c ≡ capped s.count.value → w ≡ even_or room c s.width → 1 ≤ c → 1 ≤ w → Parts room c w (some s)

-- what the books keep of it, by the number of the type
pub data Tells (d : List ℕ) (room : ℕ) : ℕ → Telling → Content → Type 0 where
  as_single : {x : Telling} {b : Block} → Kept x.block b → SameLines d x.lines b.lines → x.subfields ≡ 0 → x.subwidth ≡ 0
      → Tells d room 1 x (single b)
  as_multiple : {x : Telling} {s : Option Spread} {b : Block} → Kept x.block b → SameLines d x.lines b.lines
      → Parts room x.subfields x.subwidth s → Tells d room 2 x (multiple s b)
  as_quantity : {x : Telling} {b : Block} → Kept x.block b → SameLines d x.lines b.lines → x.subfields ≡ 0 → x.subwidth ≡ 0
      → Tells d room 3 x (quantity b)
  as_character : {n : Figure} {m : ℕ} → capped n.value ≡ n.value
      → Tells d room 4 (record { block = empty_block; lines = []; subfields = 0; subwidth = 0; size = capped n.value; next = m })
      (character n)
  as_logical : {m : ℕ} → Tells d room 5 (record { block = empty_block; lines = []; subfields = 0; subwidth = 0; size = 0; next = m })
      logical

pub data SameTold (d : List ℕ) (room k : ℕ) : Told → Result Content → Type 0 where
  tells : {x : Telling} {c : Content} {n : ℕ} → Tells d room k x c → x.next ≡ n → SameTold d room k (telling.Is x) (Is c n)
  quits : {f : Fault} → SameTold d room k (telling.Not f) (Not f)

module _ (d : List ℕ) (first : ℕ) (p : Position) (small : room p < 1000000000000000) (some-room : 1 ≤ room p) where
  with_values : (k : ℕ) (q : Bool) (c w : ℕ) (C : Block → Content)
      → ((x : Telling) (b : Block) → Kept x.block b → SameLines d x.lines b.lines → x.subfields ≡ c → x.subwidth ≡ w
      → Tells d (room p) k x (C b))
      → {A : Type 0} (r : Result A)
      → SameTold d (room p) k (values_rest d q first (to_reading r) c w) (bind r λ a n. bind (values d q first n) λ b n. Is (C b) n)
  unfolding values_rest join_values
  with_values t q c w C make r = rw (← bind_bind r (λ a. values d q first) (λ b n. Is (C b) n)) (by (values_on_lem d q first r)) where
    by : {g : Given} {v : Result Block} → SameGiven d g v → SameTold d (room p) t (join_values c w g) (bind v λ b n. Is (C b) n)
    by (gives {b = b} {l = l} {c = z} {n = n} k h) =
        tells (make (record { block = b; lines = l; subfields = c; subwidth = w; size = 0; next = n }) z k h refl refl) refl
    by refuses = quits

  -- behind SPREAD
  spread_then_lem : (m : ℕ) (r : Result Spread) → spread_rest d (Ok m) (room p) ≡ to_spreading (room p) r
      → SameTold d (room p) 2 (spread_or d first (to_spreading (room p) r))
      (bind (bind r λ s n. Is (some s) n) λ s n. bind (values d false first n) λ b n. Is (multiple s b) n)
  spread_then_lem m (Is s i) e =
      let g = spread_good d (Ok m) (room p) _ some-room e in
      with_values 2 false (capped s.count.value) (even_or (room p) (capped s.count.value) s.width) (multiple (some s))
      (λ x b k l u v. as_multiple k l (fields u (v ∙ rw u) (rw u g.some) (rw v g.wide))) (Is i i)
  spread_then_lem m (Not f) e = quits

  multiple_at : (s : Result Unit) → SameTold d (room p) 2 (optional d first (to_reading s) (room p) (choice_of d (to_reading s) SPREAD))
      (bind s λ a n. bind (either d SPREAD (λ m. bind (spread d (room p) m) λ s n. Is (some s) n) (λ n. Is none n) n) λ s n. bind
      (values d false first n) λ b n. Is (multiple s b) n)
  unfolding choice_of
  multiple_at (Is a k) = by (word_at d k SPREAD) where
    by : (x : Word) → SameTold d (room p) 2 (optional d first (Ok k) (room p) (of_choice x))
        (bind (on_word (λ m. bind (spread d (room p) m) λ s n. Is (some s) n) (λ n. Is none n) k x) λ s n. bind
        (values d false first n) λ b n. Is (multiple s b) n)
    by (spelled.Matched m) = rw (spread_on d (room p) small m) (spread_then_lem m (spread d (room p) m) (spread_on d (room p) small m))
    by spelled.Not = with_values 2 false 0 0 (multiple none) (λ x b k l u v. as_multiple k l (rw (u, v) bits)) (Is k k)
  multiple_at (Not f) = with_values 2 false 0 0 (multiple none) (λ x b k l u v. as_multiple k l (rw (u, v) bits)) {A = ℕ} (Not f)

  size_then : (n : ℕ) (r : Result Figure) → size_on d (Ok n) ≡ to_number r
      → SameTold d (room p) 4 (join_size (to_number r)) (bind r λ n m. Is (character n) m)
  unfolding join_size
  size_then n (Is x m) e = let g = size_good d (Ok n) _ e in tells (as_character (capped_small x.value (omega (arith, g.1)))) refl
  size_then n (Not f) e = quits

  pub content_on : (s : Sort) (n : ℕ) → SameTold d (room p) (kind_of s) (rest_of d first (kind_of s) (Ok n) (room p))
      (content d p first s n)
  unfolding rest_of spread_then join_nothing
  content_on Single n = with_values 1 false 0 0 single (λ x b k l u v. as_single k l u v) (Is n n)
  content_on Multiple n = rw (notes_on_lem d (Is n n)) (multiple_at (notes d n))
  content_on Quantity n = with_values 3 true 0 0 quantity (λ x b k l u v. as_quantity k l u v) (Is n n)
  content_on Character n = rw (size_on_lem d (Is n n)) (size_then n (size d n) (size_on_lem d (Is n n)))
  content_on Logical n = tells as_logical refl
