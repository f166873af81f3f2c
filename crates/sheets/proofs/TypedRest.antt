-- By type: what a variable has behind its position, from what is known of its block, its size or its end (Rests).
use Rattle.std.specs.Prelude.{Ok, Err}
use mathlib.Core.Path.{◌≡◌, refl, sym, ap, ◌∙◌}
use mathlib.Core.Bool.{Bool, true, false}
use mathlib.Core.List.{List}
use mathlib.Core.Option.{Option, none, some}
use Prim.Native.Nat.{ℕ, ◌+◌, ◌-◌, ◌*◌}
use native.Mathlib.Omega.{arith}
use lib.Dec.{eqb}
use lib.IntN.{ℤ}
use Rattle.cells.specs.rule.Cell.{pasted}
use Rattle.cells.specs.Cell.{paste_none}
use Rattle.layout.specs.rule.Layout.{line_size}
use Rattle.scan.specs.Number.{capped}
use Rattle.tokens.specs.declared.Fault.{Fault}
use Rattle.statements.specs.declared.Subfields.{Subfields}
use Rattle.survey.specs.rule.Survey.{Figure, Spread, Block, Content, single, multiple, quantity, character, logical}
use Rattle.survey.specs.rule.Width.{some_of, each_of, amounts, no_block, block_in}
use Rattle.survey.specs.rule.Table.{cells_of}
use Rattle.reading.specs.rule.Result.{Result, Is, Not, Reader, bind, give}
use Rattle.bridge.specs.Statements.{to_spreading, even_or}
use Rattle.bridge.specs.Lowest.{never}
use Rattle.xml_reading.specs.rule.Word.{VARIABLE, SPREAD, SIZE}
use Rattle.xml_reading.specs.rule.Open.{within_element, due, over}
use Rattle.xml_reading.specs.rule.Open as rule
use Rattle.xml_reading.specs.rule.Element.{size, spread}
use Rattle.xml_reading.specs.rule.Variable.{Manner, Then, with, block, ended, spreading, content}
use Rattle.elements.specs.declared.Open.{Open}
use Rattle.elements.specs.declared.Open.TheVariants as opened
use Rattle.elements.specs.declared.Due.TheVariants as dues
use Rattle.elements.specs.Code.{read_of, due_of, starts_of}
use Rattle.prefaces.specs.Code.{reading_of}
use Rattle.xml_bridge.specs.Book.{block_as}
use Rattle.xml_laws.specs.Reads.{bound}
use Rattle.sheets.specs.Code.{end_in, rested_in, content_by, Rests, values_ended, size_ended, valued_of, Valued, plain_of, sized_of}
use Rattle.tokens.specs.rule.Gap.{OrFault}
use Rattle.variables.specs.declared.Rest.{Rest}

-- ---- readers one behind another
pub bind_on : {A B C : Type 0} (r : Result A) (f : A → Reader B) (g : B → Reader C) → bind (bind r f) g ≡ bind r (λ a n. bind (f a n) g)
bind_on (Is a n) f g = refl
bind_on (Not e) f g = refl

-- ---- a spread as it was read
pub record Shared (room : ℕ) (x : Result Spread) (k : Subfields) : Type 0 where
  pub spread : Spread
  pub is : x ≡ Is spread k.next
  pub count_is : k.count ≡ capped spread.count.value
  pub width_is : k.width ≡ even_or room (capped spread.count.value) spread.width

pub spread_read : (room : ℕ) (x : Result Spread) {k : Subfields} → to_spreading room x ≡ Ok k → Shared room x k
spread_read room (Is s n) {k} e =
    let a : record { count = capped s.count.value; width = even_or room (capped s.count.value) s.width; next = n } ≡ k = cc in
    rw (← a) (record { spread = s; is = refl; count_is = refl; width_is = refl })
spread_read room (Not f) e = never cc

pub spread_refused : (room : ℕ) (x : Result Spread) {f : Fault} → to_spreading room x ≡ Err f → x ≡ Not f
spread_refused room (Is s n) e = never cc
spread_refused room (Not g) {f} e = let a : g ≡ f = cc in ap Not a

-- ---- what a type keeps of values
pub rests_of : {c w before room : ℕ} {v : Result Block} {k : Result Content} {lines lines' : List ℤ} {r : OrFault Rest}
    (f : Block → Content)
    → ((b : Block) (n : ℕ) → rested_in room before (Is (f b) n) ≡ valued_of c w before (Is b n)) → ((b : Block) → block_in (f b) ≡ b)
    → k ≡ bind v (λ b n. Is (f b) n) → Valued c w before v lines lines' r → Rests room before k lines lines' r
rests_of {c} {w} {before} {room} {v} {k} {lines} {lines'} {r} f g h e x = record
    { is = x.is ∙ sym (by v) ∙ ap (rested_in room before) (sym e); line = lined } where
      by : (v : Result Block) → rested_in room before (bind v (λ b n. Is (f b) n)) ≡ valued_of c w before v
      by (Is b n) = g b n
      by (Not z) = refl

      lined : (y : Content) (n : ℕ) → k ≡ Is y n → lines' ≡ pasted lines (line_size * before) (cells_of (block_in y).lines)
      lined y n i =
          let b = bound v (λ b n. Is (f b) n) y n (sym e ∙ i) in
          let a : f b.value ≡ y = cc in
          rw (← a, h b.value) (x.line b.value b.place b.first_is)

-- with a spread
pub rests_spread : {c w before room : ℕ} {v : Result Block} {k : Result Content} {lines lines' : List ℤ} {r : OrFault Rest} (s : Spread)
    → c ≡ capped s.count.value → w ≡ even_or room (capped s.count.value) s.width → k ≡ bind v (λ b n. Is (multiple (some s) b) n)
    → Valued c w before v lines lines' r → Rests room before k lines lines' r
rests_spread s a b e x = rests_of (multiple (some s)) (λ y n. rw (a, b)) (λ y. refl) e x

pub rests_not : {before room : ℕ} {k : Result Content} {lines lines' : List ℤ} {f : Fault} → k ≡ Not f
    → Rests room before k lines lines' (Err f)
rests_not e = record { is = rw e; line = λ y n f. never cc }

-- ---- by type
module _ (bad : Bool) (d : List ℕ) (m : Manner) (before : ℕ) where
  block_ended : (f : Block → Content) (r : Result Block)
      → bind r (λ b. ended bad d m (f b)) ≡ bind (bind r (λ b n. bind (end_in bad d n) λ u n. Is b n)) (λ b n. Is (f b) n)
  block_ended f (Is b n) = by (within_element bad d VARIABLE n) where
    by : (x : Result rule.Open) → bind x (λ o n. bind (over bad d o n) λ a j. Is (f b) j)
        ≡ bind (bind (bind x (over bad d)) λ u n. Is b n) (λ b n. Is (f b) n)
    by (Is o j) = on (over bad d o j) where
      on : (z : Result Unit) → bind z (λ a j. Is (f b) j) ≡ bind (bind z λ u n. Is b n) (λ b n. Is (f b) n)
      on (Is u i) = refl
      on (Not g) = refl
    by (Not g) = refl
  block_ended f (Not g) = refl

  pub block_then : (q : Bool) (f : Block → Content) (x : Result rule.Open)
      → bind x (λ o n. bind (block bad d m q before o n) λ b. ended bad d m (f b))
      ≡ bind (bind x (values_ended bad d m.languages q before)) (λ b n. Is (f b) n)
  block_then q f (Is o n) = block_ended f (block bad d m q before o n)
  block_then q f (Not g) = refl

  pub content_single : (room : ℕ) (x : Result rule.Open)
      → bind x (content_by bad d m room before 1) ≡ bind (bind x (values_ended bad d m.languages false before)) (λ b n. Is (single b) n)
  unfolding content
  content_single room x = block_then false single x

  pub content_quantity : (room : ℕ) (x : Result rule.Open)
      → bind x (content_by bad d m room before 3) ≡ bind (bind x (values_ended bad d m.languages true before)) (λ b n. Is (quantity b) n)
  unfolding content
  content_quantity room x = block_then true quantity x

  -- a type of that number
  pub kinded : {room kind k : ℕ} (x : Result rule.Open) {lines lines' : List ℤ} {r : OrFault Rest} → kind ≡ k
      → Rests room before (bind x (content_by bad d m room before k)) lines lines' r
      → Rests room before (bind x (content_by bad d m room before kind)) lines lines' r
  kinded x e h = rw e h

  -- a spread or none, and what follows
  abbrev after_spread : Then (Option Spread) → Reader Content
  after_spread s n = bind (block bad d m false before s.behind n) λ b. ended bad d m (multiple s.it b)

  abbrev then_inside : Spread → Reader (Then (Option Spread))
  then_inside s n = bind (within_element bad d VARIABLE n) λ o n. Is (with (some s) o) n

  multiple_on : (room : ℕ) (x : Result rule.Open) → bind x (content_by bad d m room before 2)
      ≡ bind (bind x (spreading bad d m room)) after_spread
  unfolding content
  multiple_on room x =
      let a : room + 1 - 1 ≡ room = omega arith in
      sym (bind_on x (spreading bad d m (room + 1 - 1)) after_spread)
      ∙ ap (λ (k : ℕ). bind (bind x (spreading bad d m k)) after_spread) a

  none_stands : (room : ℕ) (o : Open) → starts_of d o SPREAD ≡ false → bind (read_of o) (spreading bad d m room)
      ≡ bind (read_of o) (λ x n. Is (with none x) n)
  unfolding spreading
  none_stands room (opened.Start p e) f = rw f
  none_stands room (opened.Shut p n) f = refl
  none_stands room (opened.Not g) f = refl

  pub content_unspread : (room : ℕ) (o : Open) → starts_of d o SPREAD ≡ false
      → bind (read_of o) (content_by bad d m room before 2)
      ≡ bind (bind (read_of o) (values_ended bad d m.languages false before)) (λ b n. Is (multiple none b) n)
  content_unspread room o f =
      multiple_on room (read_of o)
      ∙ ap (λ (r : Result (Then (Option Spread))). bind r after_spread) (none_stands room o f)
      ∙ bind_on (read_of o) (λ x n. Is (with none x) n) after_spread
      ∙ block_then false (multiple none) (read_of o)

  one_stands : (room : ℕ) (o : Open) {p e : ℕ} → starts_of d o SPREAD ≡ true → due_of (bind (read_of o) λ x. due bad d SPREAD x give)
      ≡ dues.At p e
      → bind (read_of o) (spreading bad d m room) ≡ bind (spread bad d room p e) then_inside
  unfolding spreading
  one_stands room (opened.Start q n) {p} {e} f g =
      let h : dues.At q n ≡ dues.At p e = rw f at g in
      let a : q ≡ p = cc in
      let b : n ≡ e = cc in
      rw f (rw (a, b))
  one_stands room (opened.Shut q n) f g = never cc
  one_stands room (opened.Not z) f g = never cc

  pub spread_stands : {A : Type 0} (o : Open) {g : Fault} → starts_of d o SPREAD ≡ true
      → due_of (bind (read_of o) λ x. due bad d SPREAD x give) ≡ dues.Not g → A
  spread_stands (opened.Start q n) {g} f h = let i : dues.At q n ≡ dues.Not g = rw f at h in never cc
  spread_stands (opened.Shut q n) f g = never cc
  spread_stands (opened.Not z) f g = never cc

  module _ (room : ℕ) (o : Open) {p e : ℕ} (f : starts_of d o SPREAD ≡ true)
      (g : due_of (bind (read_of o) λ x. due bad d SPREAD x give) ≡ dues.At p e) where
    pub content_spread : (s : Spread) (n : ℕ) → spread bad d room p e ≡ Is s n
        → bind (read_of o) (content_by bad d m room before 2)
        ≡ bind (bind (within_element bad d VARIABLE n) (values_ended bad d m.languages false before)) (λ b n. Is (multiple (some s) b) n)
    content_spread s n i =
        multiple_on room (read_of o)
        ∙ ap (λ (r : Result (Then (Option Spread))). bind r after_spread)
        (one_stands room o f g ∙ ap (λ (r : Result Spread). bind r then_inside) i)
        ∙ bind_on (within_element bad d VARIABLE n) (λ x n. Is (with (some s) x) n) after_spread
        ∙ block_then false (multiple (some s)) (within_element bad d VARIABLE n)

    pub spread_not : {z : Fault} → spread bad d room p e ≡ Not z → bind (read_of o) (content_by bad d m room before 2) ≡ Not z
    spread_not i =
        multiple_on room (read_of o)
        ∙ ap (λ (r : Result (Then (Option Spread))). bind r after_spread)
        (one_stands room o f g ∙ ap (λ (r : Result Spread). bind r then_inside) i)

  -- a size
  size_ended_lem : (r : Result Figure)
      → bind r (λ x. ended bad d m (character x)) ≡ bind (bind r (λ x n. bind (end_in bad d n) λ u n. Is x n)) (λ x n. Is (character x) n)
  size_ended_lem (Is x n) = by (within_element bad d VARIABLE n) where
    by : (z : Result rule.Open) → bind z (λ o n. bind (over bad d o n) λ a j. Is (character x) j)
        ≡ bind (bind (bind z (over bad d)) λ u n. Is x n) (λ x n. Is (character x) n)
    by (Is o j) = on (over bad d o j) where
      on : (z : Result Unit) → bind z (λ a j. Is (character x) j) ≡ bind (bind z λ u n. Is x n) (λ x n. Is (character x) n)
      on (Is u i) = refl
      on (Not g) = refl
    by (Not g) = refl
  size_ended_lem (Not g) = refl

  content_size : (room : ℕ) (x : Result rule.Open)
      → bind x (content_by bad d m room before 4) ≡ bind (bind x (size_ended bad d)) (λ y n. Is (character y) n)
  unfolding content
  content_size room (Is o n) = size_ended_lem (due bad d SIZE o (size bad d) n)
  content_size room (Not g) = refl

  content_logical : (room kind : ℕ) (x : Result rule.Open) → eqb kind 1 ≡ false → eqb kind 2 ≡ false → eqb kind 3 ≡ false → eqb kind 4
      ≡ false
      → bind x (content_by bad d m room before kind) ≡ bind (bind x (over bad d)) (λ u n. Is logical n)
  unfolding content
  content_logical room kind (Is o n) a b c e = rw (a, b, c, e)
  content_logical room kind (Not g) a b c e = refl

  -- no values: the room stays as it is
  nothing_there : (n k : ℕ) → Ok (record {
    block = block_as no_block;
    last = before
        + 0;
    subfields = 0;
    subwidth = 0;
    size = k;
    next = n;
  })
      ≡ plain_of k before (Ok n)
  unfolding some_of each_of amounts
  nothing_there n k = let a : before + 0 ≡ before = omega arith in rw a

  unmoved : (lines : List ℤ) → lines ≡ pasted lines (line_size * before) (cells_of no_block.lines)
  unfolding cells_of
  unmoved lines = paste_none lines (line_size * before)

  pub rests_size : (room : ℕ) (x : Result rule.Open) {lines : List ℤ} {r : OrFault Rest} → r ≡ sized_of before (bind x (size_ended bad d))
      → Rests room before (bind x (content_by bad d m room before 4)) lines lines r
  rests_size room x {lines} {r} e = record {
    is = e ∙ by (bind x (size_ended bad d))
        ∙ ap (rested_in room before) (sym (content_size room x));
    line = lined;
  } where
    by : (z : Result Figure) → sized_of before z ≡ rested_in room before (bind z (λ y n. Is (character y) n))
    by (Is y n) = sym (nothing_there n (capped y.value))
    by (Not g) = refl

    lined : (y : Content) (n : ℕ) → bind x (content_by bad d m room before 4) ≡ Is y n → lines
        ≡ pasted lines (line_size * before) (cells_of (block_in y).lines)
    lined y n i =
        let b = bound (bind x (size_ended bad d)) (λ y n. Is (character y) n) y n (sym (content_size room x) ∙ i) in
        let a : character b.value ≡ y = cc in
        rw (← a) (unmoved lines)

  pub rests_logical : (room kind : ℕ) (x : Result rule.Open) {lines : List ℤ} {r : OrFault Rest}
      → eqb kind 1 ≡ false → eqb kind 2 ≡ false → eqb kind 3 ≡ false → eqb kind 4 ≡ false
      → r ≡ plain_of 0 before (reading_of (bind x (over bad d)))
      → Rests room before (bind x (content_by bad d m room before kind)) lines lines r
  rests_logical room kind x {lines} {r} p q s t e = record
      { is = e ∙ by (bind x (over bad d)) ∙ ap (rested_in room before) (sym is_logical); line = lined } where
        is_logical : bind x (content_by bad d m room before kind) ≡ bind (bind x (over bad d)) (λ u n. Is logical n)
        is_logical = content_logical room kind x p q s t

        by : (z : Result Unit) → plain_of 0 before (reading_of z) ≡ rested_in room before (bind z (λ u n. Is logical n))
        by (Is u n) = sym (nothing_there n 0)
        by (Not g) = refl

        lined : (y : Content) (n : ℕ) → bind x (content_by bad d m room before kind) ≡ Is y n → lines
            ≡ pasted lines (line_size * before) (cells_of (block_in y).lines)
        lined y n i =
            let b = bound (bind x (over bad d)) (λ u n. Is logical n) y n (sym is_logical ∙ i) in
            let a : logical ≡ y = cc in
            rw (← a) (unmoved lines)
