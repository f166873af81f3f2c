-- A VARIABLE AS A ROW: what is read behind its position, measured, is the rule's variable; its row is small enough for the room.
use Rattle.std.specs.Prelude.{Ok, Err}
use mathlib.Core.Path.{◌≡◌, refl, sym, ap, ◌∙◌}
use mathlib.Core.Bool.{Bool, true, false, cond, not}
use mathlib.Core.List.{List, [], ◌∷◌, ◌++◌}
use mathlib.Core.Option.{get_or}
use Prim.Native.Nat.{ℕ, ◌+◌, ◌-◌, ◌*◌, ◌≤◌, ◌<◌}
use native.Mathlib.Omega.{arith}
use lib.Dec.{eqb}
use lib.IntN.{ℤ}
use lib.ListN.{length, length-append, take, drop}
use borrow.Author.Tests.{le-ltb, eqb-true, eqb-false, ltb-true, not-false}
use Rattle.cells.specs.rule.Cell.{pasted}
use Rattle.layout.specs.rule.Layout.{row_size, line_size, most_rows, most_lines}
use Rattle.layout.specs.declared.Columns.{Columns}
use Rattle.rows.specs.Cells.{SmallRow}
use Rattle.rows.specs.rule.Cells.{row_cells}
use Rattle.scan.specs.Number.{capped}
use Rattle.spans.specs.rule.Heard.{Heard, heard}
use Rattle.spans.specs.rule.Says.{heard_word}
use Rattle.forms.specs.rule.Form as forms
use Rattle.forms.specs.rule.Form.{fits_of}
use Rattle.tags.specs.rule.Tag.{tag_of, stretch_fits}
use Rattle.tokens.specs.declared.Fault.{Fault}
use Rattle.tokens.specs.rule.Gap.{fault, OrFault}
use Rattle.tokens.specs.declared.Quoted.{Quoted}
use Rattle.values.specs.declared.Block as books
use Rattle.variables.specs.declared.Head.{Head}
use Rattle.variables.specs.declared.Rest.{Rest}
use Rattle.measures.specs.Width.{number_in, Measurable, full_columns, widened, plain_columns}
use Rattle.measures.specs.Survey.{counted_in, columns_in, holds_in}
use Rattle.measures.specs.Good.{GoodVariable}
use Rattle.entries.specs.Entry.{settled_by}
use Rattle.entries.specs.declared.Stood.TheVariants as stood
use Rattle.survey.specs.rule.Survey.{KeptText, Content, single, multiple, quantity, character, logical, Variable}
use Rattle.survey.specs.rule.Width.{block_in}
use Rattle.survey.specs.rule.Table.{type_of, spread_in, variable_columns, lines_of, lines_all, cells_of, holds}
use Rattle.reading.specs.rule.Result.{Result, Is, Not, Reader, bind}
use Rattle.reading.specs.rule.Least.{◌when◌, judged}
use Rattle.reading.specs.rule.Statement.{Position}
use Rattle.reading.specs.rule.Variable.{ident_charges, room, variable_of, held}
use Rattle.bridge.specs.Lowest.{never}
use Rattle.bridge.specs.Contents.{bits, fields}
use Rattle.xml_reading.specs.rule.Word.{VARIABLE, NAME, LABEL, POSITION, SIZE, IDENT, TYPE, USE}
use Rattle.xml_reading.specs.rule.Open.{Open, within_element, due, over, unknown_at}
use Rattle.xml_reading.specs.rule.Element.{figure_of, text, position, size}
use Rattle.xml_reading.specs.rule.Block.{rich}
use Rattle.xml_reading.specs.rule.Role.{XmlEntry, Title, variables_of, type_at, use_at, use_wrong, has_served, title, naming}
use Rattle.xml_reading.specs.rule.Variable.{Manner, Then, filtered, spreading, block, ended, content, variable}
use Rattle.xml_reading.specs.rule.Whole.{used_by, columns_for}
use Rattle.xml_bridge.specs.Book.{quoted_as, block_as, head_with, telling_with, book_of, saids_count, columns_same, size_in}
use Rattle.xml_bridge.specs.Settle.{Told, as_single, as_multiple, as_quantity, as_character, as_logical, stood_from, measure_here}
use Rattle.xml_bridge.specs.Settle.{settled_same}
use Rattle.xml_bridge.specs.Good.{FineContent, fine_single, fine_multiple, fine_quantity, fine_character, fine_logical, FineVariable}
use Rattle.xml_bridge.specs.Good.{head_good, telling_good, good_book}
use Rattle.xml_bridge.specs.Table.{FineEntries, entries_few}
use Rattle.xml_bridge.specs.Table as table
use Rattle.laying.specs.declared.Tally.{Tally}
use Rattle.laying.specs.Code.{tally_with}
use Rattle.laying.proofs.Small.{small_columns}
use Rattle.elements.specs.Code.{read_of}
use Rattle.elements.proofs.Dues.{read_open}
use Rattle.filters.specs.Code.{Lying}
use Rattle.filters.specs.Sums as summed
use Rattle.filters.specs.rule.Kept as kept
use Rattle.filters.proofs.Rooms.{row_reads, next_row}
use Rattle.filters.proofs.Keeping.{at_none, at_split}
use Rattle.filters.proofs.Keeping as keeping
use Rattle.filters.proofs.Storing.{NamesLie, lie_none, lie_more}
use Rattle.filters.proofs.Slots.{two_held}
use Rattle.filters.proofs.Figured.{few_digits}
use Rattle.xml_laws.specs.Reads as Laws
use Rattle.xml_laws.specs.Sheets.{Named, none_named, more_named}
use Rattle.xml_laws.specs.Reads.{text_long, position_fine, judged_is, moved, clear_head, opened, bound, within_long}
use Rattle.xml_laws.specs.Parts.{after_content, after_filter, after_position, after_label, after_name, after_title, variable_is}
use Rattle.xml_laws.specs.Entries.{due_is, title_fine, Filter, no_filter, one_filter, filtered_fine, Contained, content_fine}
use Rattle.xml_laws.specs.Entries.{room_some, room_few}
use Rattle.sheets.specs.declared.Fronted.{Fronted}
use Rattle.sheets.specs.declared.Fronted.TheVariants as fronted
use Rattle.sheets.specs.declared.Sifted.{Sifted}
use Rattle.sheets.specs.declared.Entered.{Entered}
use Rattle.sheets.specs.declared.Entered.TheVariants as entereds
use Rattle.sheets.specs.Code.{count_in, width_in, placeless_of, rested_in, roomy, content_by, head_of, behind_front, sifted_in, sifted_of}
use Rattle.sheets.specs.Code.{FrontRead, entered_of}
use Rattle.sheets.specs.Code.{Front, front_of, name_in, label_in, position_in, Before, Sofar, Knowing, tally_of, Rests, SiftSaid}
use Rattle.sheets.specs.Code.{Bodied, FrontSaid}
use Rattle.sheets.specs.Code.{fronted_of, Joined}

capped_low : (n : ℕ) → n ≤ 16384 → capped n ≡ n
capped_low n h = rw (le-ltb 1000000000000000 n (omega arith))

-- ---- the start tag: an ident of four digits, one of five types
pub record Known (t : Title) (n : ℕ) : Type 0 where
  pub short : t.ident.value < 10000
  pub typed : (1 ≤ t.type) × (t.type ≤ 5)

type_most : (h : Heard) → forms.form_kind h ≤ 5
unfolding forms.form_kind
type_most h = by (heard_word forms.single h) (heard_word forms.multiple h) (heard_word forms.quantity h) (heard_word forms.character h)
    (heard_word forms.logical h) where
      by : (a b c d e : Bool) → cond a 1 (cond b 2 (cond c 3 (cond d 4 (cond e 5 0)))) ≤ 5
      by true b c d e = omega arith
      by false true c d e = omega arith
      by false false true d e = omega arith
      by false false false true e = omega arith
      by false false false false true = omega arith
      by false false false false false = omega arith

module _ (d : List ℕ) (v e : ℕ) where
  type_within : stretch_fits 4 d v e ≡ true → (1 ≤ type_at d v e) × (type_at d v e ≤ 5)
  unfolding stretch_fits fits_of type_at
  type_within f = (ltb-true 0 (forms.form_kind (heard (take (e - v) (drop v d)) 0)) f, type_most (heard (take (e - v) (drop v d)) 0))

pub title_known : (bad : Bool) (d : List ℕ) (old : Bool) (l : List XmlEntry) (p e : ℕ) {t : Title} {n : ℕ} → title bad d old l p e ≡ Is t n
    → Known t n
unfolding title
title_known bad d old l p e {t} {n} f =
    let o = opened bad d (tag_of bad d p e IDENT TYPE (cond old [] USE) 1 4 (cond old 0 5) 2) _ t n f in
    let h = o.held in
    let x = figure_of d h.a h.ae in
    let k = type_at d h.b h.be in
    let u = use_at d h.c h.ce in
    let c = ident_charges (variables_of l) x ++ unknown_at h.unknown ∷ fault 52 h.c when use_wrong l u k ∷ [] in
    let b = bound (judged c (record { ident = x; type = k; usage = u }) o.next) _ t n o.then_is in
    let j = judged_is c (record { ident = x; type = k; usage = u }) o.next b.first_is in
    let z = shut_is o.empty o.place b.value b.place b.then_is in
    let s = two_held d 1 4 (cond old 0 5) bad p e IDENT TYPE (cond old [] USE) o.tag_is in
    let q = title_fine bad d old l p e f in
    let i : x ≡ t.ident = ap (λ (a : Title). a.ident) (j.0 ∙ z.0) in
    moved Known (j.0 ∙ z.0) (j.1 ∙ z.1) (record {
      short = few_digits d h.a h.ae s.first.fits (rw i q.digits);
      typed = type_within d h.b h.be s.second.fits;
    })
  where
    shut_is : (em : Bool) (q : ℕ) (a : Title) (m : ℕ) → cond em (Not (fault 2 q)) (Is a m) ≡ Is t n → (a ≡ t) × (m ≡ n)
    shut_is true q a m f = never cc
    shut_is false q a m f = (cc, cc)

-- ---- subfields as the code counts them
told_count : {k c w : ℕ} {t : Content} → Told k c w t → (count_in (spread_in t) ≡ c) × (width_in k (spread_in t) ≡ w)
told_count as_single = (refl, refl)
told_count (as_multiple bits) = (refl, refl)
told_count (as_multiple (fields u y e f)) = (sym u, rw (← u) (sym y))
told_count as_quantity = (refl, refl)
told_count as_character = (refl, refl)
told_count as_logical = (refl, refl)

size_low : {b : ℕ} {t : Content} → FineContent b t → capped (size_in t) ≡ size_in t
size_low (fine_single v) = refl
size_low (fine_multiple v) = refl
size_low (fine_quantity v) = refl
size_low (fine_character {n} g h) = capped_low n.value (omega arith)
size_low fine_logical = refl

-- ---- what a type has is of this type
module _ (bad : Bool) (d : List ℕ) (m : Manner) where
  ended_same : (a : Content) (e : ℕ) {c : Content} {n : ℕ} → ended bad d m a e ≡ Is c n → a ≡ c
  ended_same a e {c} {n} f = let b = bound (within_element bad d VARIABLE e) _ c n f in
      last (over bad d b.value b.place) b.then_is where
        last : (r : Result Unit) → bind r (λ u j. Is a j) ≡ Is c n → a ≡ c
        last (Is u j) g = cc
        last (Not g) e = never cc

  type_same : (p : Position) (before t : ℕ) (o : Open) (e : ℕ) {c : Content} {n : ℕ} → (1 ≤ t) × (t ≤ 5) → content bad d m p before t o e
      ≡ Is c n → t ≡ type_of c
  unfolding content
  type_same p before t o e {c} {n} h f = by (eqb t 1) (eqb t 2) (eqb t 3) (eqb t 4) refl refl refl refl f where
    five : (eqb t 1 ≡ false) → eqb t 2 ≡ false → eqb t 3 ≡ false → eqb t 4 ≡ false → t ≡ 5
    five q r s z =
        let a = eqb-false t 1 q in
        let b = eqb-false t 2 r in
        let g = eqb-false t 3 s in
        let k = eqb-false t 4 z in
        let u = h.0 in
        let v = h.1 in
        omega arith

    last : (r : Result Unit) → bind r (λ u j. Is logical j) ≡ Is c n → logical ≡ c
    last (Is u j) g = cc
    last (Not g) e = never cc

    by : (q r s z : Bool) → eqb t 1 ≡ q → eqb t 2 ≡ r → eqb t 3 ≡ s → eqb t 4 ≡ z
        → cond {A = Reader Content} q (λ e. bind (block bad d m false before o e) λ b. ended bad d m (single b))
        (cond r (λ e. bind (spreading bad d m (room p) o e) λ s n. bind (block bad d m false before s.behind n) λ b. ended bad d m
        (multiple s.it b))
        (cond s (λ e. bind (block bad d m true before o e) λ b. ended bad d m (quantity b))
        (cond z (λ e. bind (due bad d SIZE o (size bad d) e) λ x. ended bad d m (character x))
        (λ e. bind (over bad d o e) λ a j. Is logical j)))) e ≡ Is c n
        → t ≡ type_of c
    by true r s z a b x y f =
        let k = bound (block bad d m false before o e) _ c n f in
        eqb-true t 1 a ∙ ap (λ (c : Content). type_of c) (ended_same (single k.value) k.place k.then_is)
    by false true s z a b x y f =
        let i = bound (spreading bad d m (room p) o e) _ c n f in
        let k = bound (block bad d m false before i.value.behind i.place) _ c n i.then_is in
        eqb-true t 2 b ∙ ap (λ (c : Content). type_of c) (ended_same (multiple i.value.it k.value) k.place k.then_is)
    by false false true z a b x y f =
        let k = bound (block bad d m true before o e) _ c n f in
        eqb-true t 3 x ∙ ap (λ (c : Content). type_of c) (ended_same (quantity k.value) k.place k.then_is)
    by false false false true a b x y f =
        let k = bound (due bad d SIZE o (size bad d) e) _ c n f in
        eqb-true t 4 y ∙ ap (λ (c : Content). type_of c) (ended_same (character k.value) k.place k.then_is)
    by false false false false a b x y f = five a b x y ∙ ap (λ (c : Content). type_of c) (last (over bad d o e) f)

  -- it goes by the bytes of its position alone
  content_room : (p q : Position) (before t : ℕ) (o : Open) (e : ℕ) → room p ≡ room q → content bad d m p before t o e
      ≡ content bad d m q before t o e
  unfolding content
  content_room p q before t o e f = rw f

room_of : (k : ℕ) → room (roomy k) ≡ k
room_of k = omega arith

left_same : {a b c e : ℕ} → a ≡ c → b ≡ e → a + 1 - b ≡ c + 1 - e
left_same f g = rw (f, g)

head_by : (a b : Quoted) (q : ℕ) {i j k n s t f g : ℕ} → i ≡ j → k ≡ n → s ≡ t → f ≡ g
    → ◌≡◌ {A = Head} (record { ident = i; name = a; label = b; kind = k; start = s; finish = f; place = q; next = 0 })
    (record { ident = j; name = a; label = b; kind = n; start = t; finish = g; place = q; next = 0 })
head_by a b q e h u v = rw (e, h, u, v)

rest_by : (a : books.Block) {i j k n s t f g : ℕ} → i ≡ j → k ≡ n → s ≡ t → f ≡ g
    → ◌≡◌ {A = Rest} (record { block = a; last = i; subfields = k; subwidth = s; size = f; next = 0 })
    (record { block = a; last = j; subfields = n; subwidth = t; size = g; next = 0 })
rest_by a e h u v = rw (e, h, u, v)

used_by_lem : (f : ℕ) {u v : ℕ} {c e : Columns} → u ≡ v → c ≡ e → used_by u f c ≡ used_by v f e
used_by_lem f h k = rw (h, k)

rest_inj : (a b : Rest) → ◌≡◌ {A = OrFault Rest} (Ok a) (Ok b) → a ≡ b
rest_inj a b e = cc

-- ---- the columns of a variable that its position holds are small
small_plain : (b : ℕ) (v : Variable) → GoodVariable b (book_of v) → SmallRow (columns_in b (book_of v))
unfolding holds_in columns_in full_columns widened plain_columns counted_in
small_plain b v g =
    small_columns (columns_in b (book_of v)) g.counts g.places g.holds (omega (arith, g.few)) (omega (arith, g.few)) (omega arith)
    (omega arith)

small_used : (b : ℕ) (v : Variable) (u f : ℕ) → GoodVariable b (book_of v) → u ≤ 2 → f ≤ 512 → SmallRow (used_by u f (variable_columns b v))
small_used b v u f g h k = wider (variable_columns b v) (rw (← columns_same b v) (small_plain b v g)) where
  wider : (c : Columns) → SmallRow c → SmallRow (used_by u f c)
  wider c s = record {
    ident = s.ident;
    kind = s.kind;
    start = s.start;
    finish = s.finish;
    width = s.width;
    decimals = s.decimals;
    point = s.point;
    subfields = s.subfields;
    subwidth = s.subwidth;
    range = s.range;
    before = s.before;
    lines = s.lines;
    name = s.name;
    name_len = s.name_len;
    label = s.label;
    label_len = s.label_len;
    usage = omega (arith, h);
    filter = omega (arith, k);
  }

-- ---- what the answer of settling says
pub record Settled (b : ℕ) (v : Variable) (n : ℕ) (c : Columns) (last k : ℕ) : Type 0 where
  pub columns_are : c ≡ variable_columns b v
  pub last_is : last ≡ b + length (lines_of v)
  pub next_is : k ≡ n
  pub holding : holds v ≡ true
  pub held_is : held v n ≡ Is v n

settled_is : (b : ℕ) (v : Variable) (n : ℕ) (c : Columns) (last k : ℕ) → stood.Is c last k ≡ stood_from b (held v n)
    → Settled b v n c last k
settled_is b v n c last k = by (held v n) refl where
  by : (r : Result Variable) → held v n ≡ r → stood.Is c last k ≡ stood_from b r → Settled b v n c last k
  by (Is w j) i e =
      let q = judged_is (fault 7 v.start.place when not (holds v) ∷ []) v n i in
      let s : c ≡ variable_columns b w = cc in
      let t : last ≡ b + length (lines_of w) = cc in
      let u : k ≡ j = cc in
      record {
        columns_are = s ∙ ap (variable_columns b) (sym q.0);
        last_is = t ∙ ap (λ (w : Variable). b + length (lines_of w)) (sym q.0);
        next_is = u ∙ sym q.1;
        holding = not-false (holds v) (clear_head q.2);
        held_is = i ∙ ap (λ (w : Variable). Is w j) (sym q.0) ∙ ap (λ (j : ℕ). Is v j) (sym q.1);
      }
  by (Not f) i e = never cc

settled_not : (b : ℕ) (v : Variable) (n : ℕ) (f : Fault) → stood.Not f ≡ stood_from b (held v n) → held v n ≡ Not f
settled_not b v n f = by (held v n) where
  by : (r : Result Variable) → stood.Not f ≡ stood_from b r → r ≡ Not f
  by (Is w j) e = never cc
  by (Not g) e = let a : f ≡ g = cc in ap Not (sym a)

-- ---- BEHIND THE POSITION
module _ (bad : Bool) (d : List ℕ) (long : length d ≤ 1048576) (m : Manner) (l : List XmlEntry) (g : FineEntries l) (b : ℕ)
    (be : b ≡ lines_all (variables_of l))
    (h : Head) (usage at : ℕ) (x : FrontRead bad d m l h usage at) where
  abbrev t : Title
  t = x.front.title

  abbrev p : Position
  p = x.front.position

  abbrev made : Content → Variable
  made c = variable_of t.ident x.front.name x.front.label p c

  abbrev sifted : Result (Then ℕ)
  sifted = sifted_in bad d m l x.front.name t.usage at

  few : b ≤ 4096
  few = omega (arith, be, (entries_few g).1)

  kind_is : h.kind ≡ t.type
  kind_is = ap (λ (h : Head). h.kind) x.head_is

  start_is : h.start ≡ p.start.value
  start_is = ap (λ (h : Head). h.start) x.head_is ∙ capped_low p.start.value (omega (arith, x.placed.ordered, x.placed.low))

  finish_is : h.finish ≡ (get_or p.finish p.start).value
  finish_is = ap (λ (h : Head). h.finish) x.head_is ∙ capped_low (get_or p.finish p.start).value x.placed.low

  room_is : h.finish + 1 - h.start ≡ room p
  room_is = left_same finish_is start_is

  filter_then : behind_front bad d m l x.front at ≡ bind sifted (after_filter bad d m l t x.front.name x.front.label p)
  unfolding behind_front after_position
  filter_then = by (within_element bad d VARIABLE at) where
    by : (r : Result Open)
        → bind r (λ o k. bind (filtered bad d m l x.front.name t.usage o k)
        (after_filter bad d m l t x.front.name x.front.label p))
        ≡ bind (bind r (λ o. filtered bad d m l x.front.name t.usage o))
        (after_filter bad d m l t x.front.name x.front.label p)
    by (Is o k) = refl
    by (Not f) = refl

  content_at : (o : Open) (e : ℕ) → content_by bad d m (h.finish + 1 - h.start) b h.kind o e ≡ content bad d m p b t.type o e
  content_at o e =
      ap (λ (k : ℕ). content bad d m (roomy (h.finish + 1 - h.start)) b k o e) kind_is
      ∙ content_room bad d m (roomy (h.finish + 1 - h.start)) p b t.type o e (room_of (h.finish + 1 - h.start) ∙ room_is)

  abbrev contents : Sifted → Result Content
  contents s = bind (read_of s.tag) (content_by bad d m (h.finish + 1 - h.start) b h.kind)

  contents_are : (s : Sifted) (z : Result (Then ℕ)) → s ≡ sifted_of z → contents s ≡ bind z (λ y. content bad d m p b t.type y.behind)
  contents_are s (Is y n) e =
      ap contents e
      ∙ ap (λ (r : Result Open). bind r (content_by bad d m (h.finish + 1 - h.start) b h.kind)) (read_open (Is y.behind n))
      ∙ content_at y.behind n
  contents_are s (Not f) e = ap contents e

  -- what the code holds of it
  abbrev rest_as : Content → ℕ → Rest
  rest_as c n = record {
    block = block_as (block_in c);
    last = b + length (block_in c).lines;
    subfields = count_in (spread_in c);
    subwidth = width_in (h.finish + 1 - h.start) (spread_in c);
    size = capped (size_in c);
    next = n;
  }

  pub record RestRead (s : Sifted) (r : Rest) : Type 0 where
    pub what : Content
    pub place : ℕ
    pub is : behind_front bad d m l x.front at ≡ after_content bad d m l t x.front.name x.front.label p s.filter what place
    pub rest_is : r ≡ rest_as what place
    pub what_is : contents s ≡ Is what place
    pub contained : Contained bad d l t.usage p b what place
    pub typed : t.type ≡ type_of what
    pub filter : Filter bad d l t.usage s.filter

  pub rest_read : (s : Sifted) (r : Rest) → s ≡ sifted_of sifted → Ok r ≡ rested_in (h.finish + 1 - h.start) b (contents s)
      → RestRead s r
  unfolding after_filter
  rest_read s r e f = by sifted refl e where
    by : (z : Result (Then ℕ)) → sifted ≡ z → s ≡ sifted_of z → RestRead s r
    by (Is y n) i e = on (content bad d m p b t.type y.behind n) refl where
      on : (q : Result Content) → content bad d m p b t.type y.behind n ≡ q → RestRead s r
      on (Is c k) j =
          let w = bound (within_element bad d VARIABLE at) _ y n i in
          let ww = within_long bad d VARIABLE at w.first_is in
          let ff = filtered_fine bad d m l x.front.name t.usage w.value w.place ww.0 ww.1 w.then_is in
          let fi : s.filter ≡ y.it = ap (λ (s : Sifted). s.filter) e in
          let z = contents_are s (Is y n) e ∙ j in
          record {
            what = c;
            place = k;
            is =
                filter_then ∙ ap (λ (r : Result (Then ℕ)). bind r (after_filter bad d m l t x.front.name x.front.label p)) i
                ∙ ap (λ (b : ℕ). bind (content bad d m p b t.type y.behind n)
                (after_content bad d m l t x.front.name x.front.label p y.it)) (sym be)
                ∙ ap (λ (r : Result Content). bind r (after_content bad d m l t x.front.name x.front.label p y.it)) j
                ∙ ap (λ (f : ℕ). after_content bad d m l t x.front.name x.front.label p f c k) (sym fi);
            rest_is = rest_inj r (rest_as c k) (f ∙ ap (rested_in (h.finish + 1 - h.start) b) z);
            what_is = z;
            contained =
                content_fine bad d long m l t.usage p b few (room_some p x.placed.ordered)
                (room_few p x.placed.from_one x.placed.low) t.type
                y.behind n ff.1 ff.2 x.titled.right j;
            typed = type_same bad d m p b t.type y.behind n x.typed j;
            filter = rw fi ff.0;
          }
      on (Not a) j = let k = f ∙ ap (rested_in (h.finish + 1 - h.start) b) (contents_are s (Is y n) e ∙ j) in never cc
    by (Not a) i e = let k = f ∙ ap (rested_in (h.finish + 1 - h.start) b) (contents_are s (Not a) e) in never cc

  pub rest_not : (s : Sifted) (f : Fault) → s ≡ sifted_of sifted → Err f ≡ rested_in (h.finish + 1 - h.start) b (contents s)
      → behind_front bad d m l x.front at ≡ Not f
  unfolding after_filter
  rest_not s f e q =
      filter_then
      ∙ ap (λ (b : ℕ). bind sifted (λ y n. bind (content bad d m p b t.type y.behind n)
      (after_content bad d m l t x.front.name x.front.label p y.it))) (sym be)
      ∙ by sifted e
    where
      none : (r : Result Content) → Err f ≡ rested_in (h.finish + 1 - h.start) b r → r ≡ Not f
      none (Is c n) e = never cc
      none (Not a) e = let z : f ≡ a = cc in ap Not (sym z)

      by : (z : Result (Then ℕ)) → s ≡ sifted_of z
          → bind z (λ y n. bind (content bad d m p b t.type y.behind n)
          (after_content bad d m l t x.front.name x.front.label p y.it)) ≡ Not f
      by (Is y n) e =
          ap (λ (r : Result Content). bind r (after_content bad d m l t x.front.name x.front.label p y.it))
          (none (content bad d m p b t.type y.behind n) (q ∙ ap (rested_in (h.finish + 1 - h.start) b) (contents_are s (Is y n) e)))
      by (Not a) e = let z = q ∙ ap (rested_in (h.finish + 1 - h.start) b) (contents_are s (Not a) e) in let y : f ≡ a = cc in
          ap Not (sym y)

  -- ---- measured
  module _ (s : Sifted) (r : Rest) (o : RestRead s r) where
    abbrev v : Variable
    v = made o.what

    fine : FineVariable b o.contained.subfields o.contained.subwidth v
    fine = record {
      texts = record {
        name = omega (arith, x.name_in, long);
        name_len = omega (arith, x.name_in, long);
        label = omega (arith, x.label_in, long);
        label_len = omega (arith, x.label_in, long);
      };
      ident_some = x.titled.some;
      ident_short = omega (arith, x.short);
      from_one = x.placed.from_one;
      ordered = x.placed.ordered;
      low = x.placed.low;
      told = o.contained.told;
      content = o.contained.fine;
    }

    head_same : h ≡ head_with 0 0 v
    head_same =
        x.head_is
        ∙ head_by (quoted_as x.front.name 0) (quoted_as x.front.label 0) p.start.place
        (capped_low t.ident.value (omega (arith, x.short))) o.typed
        (capped_low p.start.value (omega (arith, x.placed.ordered, x.placed.low)))
        (capped_low (get_or p.finish p.start).value x.placed.low)

    rest_same : placeless_of r ≡ counted_in b (telling_with o.contained.subfields o.contained.subwidth o.what)
    unfolding counted_in
    rest_same =
        let q = told_count o.contained.told in
        ap placeless_of o.rest_is
        ∙ rest_by (block_as (block_in o.what)) (ap (λ (n : ℕ). b + n) (sym (saids_count (block_in o.what).lines))) q.0
        (ap (λ (k : ℕ). width_in k (spread_in o.what)) room_is ∙ q.1) (size_low o.contained.fine)

    module _ (lines lines' : List ℤ) (wide : length lines ≡ 16384)
        (pasted-in : lines' ≡ pasted lines (line_size * b) (cells_of (block_in o.what).lines)) where
      pub measured_here : Measurable lines' h (placeless_of r) b
      measured_here =
          by lines' h (placeless_of r) pasted-in head_same rest_same
          (measure_here 0 0 b o.contained.subfields o.contained.subwidth v o.contained.told
          (head_good b o.contained.subfields o.contained.subwidth v few fine 0 0)
          (telling_good b o.contained.subfields o.contained.subwidth v few fine) lines wide)
        where
          by : (n : List ℤ) (k : Head) (q : Rest) {n' : List ℤ} {k' : Head} {q' : Rest} → n ≡ n' → k ≡ k' → q ≡ q' → Measurable n' k' q' b
              → Measurable n k q b
          by n k q e f z a = rw (e, f, z) a

      pub settled_here : (n : ℕ) → settled_by (number_in lines' b) h (placeless_of r) b (Ok n) ≡ stood_from b (held v n)
      settled_here n =
          by lines' h (placeless_of r) pasted-in head_same rest_same
          ∙ settled_same 0 0 b o.contained.subfields o.contained.subwidth v o.contained.told
          (head_good b o.contained.subfields o.contained.subwidth v few fine 0 0)
          (telling_good b o.contained.subfields o.contained.subwidth v few fine) lines wide n
        where
          by : (i : List ℤ) (k : Head) (q : Rest) {i' : List ℤ} {k' : Head} {q' : Rest} → i ≡ i' → k ≡ k' → q ≡ q'
              → settled_by (number_in i b) k q b (Ok n) ≡ settled_by (number_in i' b) k' q' b (Ok n)
          by i k q e f z = rw (e, f, z)

    -- ---- the row
    filter_low : s.filter ≤ 512
    filter_low = by o.filter where
      by : {f : ℕ} → Filter bad d l t.usage f → f ≤ 512
      by no_filter = omega arith
      by (one_filter e k) = omega (arith, k.count, ap length k.is, length-append k.front (k.row ∷ k.rest), (entries_few g).0)

    module _ (c : Columns) (last k : ℕ) (z : Settled b v o.place c last k) where
      pub small_row : SmallRow (used_by usage s.filter c)
      small_row =
          by z.columns_are x.usage_is (small_used b v t.usage s.filter
          (good_book b o.contained.subfields o.contained.subwidth v few fine z.holding) x.titled.known filter_low)
        where
          by : {c c' : Columns} {u u' : ℕ} → c ≡ c' → u ≡ u' → SmallRow (used_by u' s.filter c') → SmallRow (used_by u s.filter c)
          by e f a = rw (e, f) a

      abbrev entry : XmlEntry
      entry = record { variable = v; usage = t.usage; filter = s.filter }

      pub entry_is_lem : behind_front bad d m l x.front at ≡ Is entry o.place
      unfolding after_content
      entry_is_lem = o.is ∙ rw z.held_is

      pub row_is : used_by usage s.filter c ≡ columns_for b entry
      unfolding columns_for
      row_is = used_by_lem s.filter x.usage_is z.columns_are

      pub ident_is : c.ident ≡ t.ident.value
      unfolding variable_columns
      ident_is = ap (λ (c : Columns). c.ident) z.columns_are

    pub not_held : (f : Fault) → stood.Not f ≡ stood_from b (held v o.place) → behind_front bad d m l x.front at ≡ Not f
    unfolding after_content
    not_held f e = o.is ∙ rw (settled_not b v o.place f e)

-- ---- the rows before may be asked
names_lie : {d : List ℕ} {l : List XmlEntry} → Named d l → NamesLie (length d) l
names_lie {d} none_named = lie_none (length d)
names_lie {d} (more_named {l} v n h) = lie_more (length d) l v (names_lie n) h

filters_low : {l : List XmlEntry} → FineEntries l → (i : ℕ) (v : XmlEntry) → kept.At l i v → v.filter ≤ length l
filters_low table.nothing i v a = absurd (at_none a refl)
filters_low (table.more {l = l} {v = w} g f) i v a = by i v (at_split l w a) (λ i v a. filters_low g i v a) where
  on : table.Filters l w → w.filter ≤ length (l ++ w ∷ [])
  on (table.unfiltered e) = omega arith
  on (table.filtered p s u a b c k) = omega (arith, ap length b, length-append p (u ∷ s), length-append l (w ∷ []))

  by : (i : ℕ) (v : XmlEntry) → keeping.Split l w i v → ((i : ℕ) (v : XmlEntry) → kept.At l i v → v.filter ≤ length l) → v.filter
      ≤ length (l ++ w ∷ [])
  by i v (keeping.old a) ih = omega (arith, ih i v a, length-append l (w ∷ []))
  by i v (keeping.new e) ih = on f.filters

pub lies : {d seen : List ℕ} {y : Tally} {rows : List ℤ} → Sofar d seen y rows → Lying (length d) rows y.rows
lies {d} {seen} {y} {rows} s =
    let b = s.before in
    let h = b.held in
    let c = h.counted in
    record {
      room = s.rows_long;
      few = omega (arith, (entries_few b.fine).0);
      names = λ i k.
          let z = next_row s.read i (omega arith) in
          let e = (row_reads h z.at).name in
          omega (
            arith,
            ap (λ (t : KeptText). t.place) e,
            ap (λ (t : KeptText). t.length) e,
            (names_lie b.named).lie i z.row z.at,
          );
      filters = λ i k.
          let z = next_row s.read i (omega arith) in
          omega (arith, (row_reads h z.at).filter, filters_low b.fine i z.row z.at);
    }

pub knows : {latin : Bool} {d seen : List ℕ} {y : Tally} {rows : List ℤ} {sums : List ℕ} → Knowing latin d seen y rows sums
    → summed.Known latin d rows y.rows sums
knows k = record { lying = lies k.sofar; summing = k.summing }

lines_of_lem : {d seen : List ℕ} {y : Tally} {rows : List ℤ} {l : List XmlEntry} → Before d seen y rows l → y.lines
    ≡ lines_all (variables_of l)
unfolding tally_of
lines_of_lem b = ap (λ (y : Tally). y.lines) b.tally

pub lines_few : {d seen : List ℕ} {y : Tally} {rows : List ℤ} → Sofar d seen y rows → y.lines ≤ most_lines
lines_few s = omega (arith, lines_of_lem s.before, (entries_few s.before.fine).1)

-- ---- for whatever variables stand before
module _ (bad : Bool) (d : List ℕ) (long : length d ≤ 1048576) (m : Manner) (seen : List ℕ) (y : Tally) (h : Head) (usage at : ℕ)
    (rows : List ℤ) where
  abbrev Given : Type 0
  Given = (l : List XmlEntry) → Before d seen y rows l → FrontRead bad d m l h usage at

  pub rows_left : Sofar d seen y rows → Given → y.rows < most_rows
  rows_left s f = omega (arith, (f s.read s.before).titled.left, s.before.held.counted)

  abbrev bytes : ℕ
  bytes = h.finish + 1 - h.start

  not_all : (rows' lines lines' : List ℤ) (f : Fault)
      → ((l : List XmlEntry) → Before d seen y rows l → (x : FrontRead bad d m l h usage at) → behind_front bad d m l x.front at ≡ Not f)
      → Bodied bad d m seen y h usage at rows rows' lines lines' (entereds.Not f)
  not_all rows' lines lines' f n = record {
    is = λ l b x. ap (entered_of y) (sym (n l b x));
    row = λ l b x v k e. let z = sym (n l b x) ∙ e in never cc;
    line = λ l b x v k e. let z = sym (n l b x) ∙ e in never cc;
  }

  module _ (s : Sifted) (said : SiftSaid bad d m rows y.rows (record { place = h.name.place; length = h.name.length }) usage at s)
      (lines lines' : List ℤ) (wide : length lines ≡ 16384) where
    abbrev content_of : Result Content
    content_of = bind (read_of s.tag) (content_by bad d m bytes y.lines h.kind)

    sifted_is : (l : List XmlEntry) → Before d seen y rows l → (x : FrontRead bad d m l h usage at)
        → s ≡ sifted_of (sifted_in bad d m l x.front.name x.front.title.usage at)
    sifted_is l b x = said.is l b.held ∙ by x.head_is x.usage_is where
      by : {k : Head} {u : ℕ} → h ≡ k → usage ≡ u
          → sifted_of (sifted_in bad d m l (record { place = h.name.place; length = h.name.length }) usage at)
          ≡ sifted_of (sifted_in bad d m l (record { place = k.name.place; length = k.name.length }) u at)
      by {k} {u} e f =
          ap (λ (k : Head). sifted_of (sifted_in bad d m l (record { place = k.name.place; length = k.name.length }) usage at)) e
          ∙ ap (λ (u : ℕ). sifted_of (sifted_in bad d m l (record { place = k.name.place; length = k.name.length }) u at)) f

    pub body_not : (rows' : List ℤ) (f : Fault) → Rests bytes y.lines content_of lines lines' (Err f)
        → Bodied bad d m seen y h usage at rows rows' lines lines' (entereds.Not f)
    body_not rows' f q = not_all rows' lines lines' f λ l b x. rest_not bad d long m l b.fine y.lines (lines_of_lem b) h usage at x s f
        (sifted_is l b x) q.is

    module _ (r : Rest) (rests : Rests bytes y.lines content_of lines lines' (Ok r)) (q : Rest) (q-is : q ≡ placeless_of r) where
      abbrev read : (l : List XmlEntry) (b : Before d seen y rows l) (x : FrontRead bad d m l h usage at)
          → RestRead bad d long m l b.fine y.lines (lines_of_lem b) h usage at x s r
      read l b x = rest_read bad d long m l b.fine y.lines (lines_of_lem b) h usage at x s r (sifted_is l b x) rests.is

      pub measured_all : Sofar d seen y rows → Given → Measurable lines' h q y.lines
      measured_all z f =
          let o = read z.read z.before (f z.read z.before) in
          by q-is (measured_here bad d long m z.read z.before.fine y.lines (lines_of_lem z.before) h usage at
          (f z.read z.before) s r o lines lines' wide
          (rests.line o.what o.place o.what_is))
        where
          by : {q p : Rest} → q ≡ p → Measurable lines' h p y.lines → Measurable lines' h q y.lines
          by e a = rw e a

      module _ (l : List XmlEntry) (b : Before d seen y rows l) (x : FrontRead bad d m l h usage at) where
        abbrev whole : Variable
        whole = variable_of x.front.title.ident x.front.name x.front.label x.front.position (read l b x).what

        settled_all : settled_by (number_in lines' y.lines) h q y.lines (Ok r.next)
            ≡ stood_from y.lines (held whole (read l b x).place)
        settled_all =
            let o = read l b x in
            ap (λ (q : Rest). settled_by (number_in lines' y.lines) h q y.lines (Ok r.next)) q-is
            ∙ ap (λ (n : ℕ). settled_by (number_in lines' y.lines) h (placeless_of r) y.lines (Ok n))
            (ap (λ (r : Rest). r.next) o.rest_is)
            ∙ settled_here bad d long m l b.fine y.lines (lines_of_lem b) h usage at x s r o lines lines' wide
            (rests.line o.what o.place o.what_is) o.place

      pub body_unheld : (rows' : List ℤ) (f : Fault) → stood.Not f ≡ settled_by (number_in lines' y.lines) h q y.lines (Ok r.next)
          → Bodied bad d m seen y h usage at rows rows' lines lines' (entereds.Not f)
      body_unheld rows' f e =
          not_all rows' lines lines' f λ l b x. not_held bad d long m l b.fine y.lines (lines_of_lem b) h usage at x s r (read l b x) f
          (e ∙ settled_all l b x)

      module _ (c : Columns) (last k : ℕ) (e : stood.Is c last k ≡ settled_by (number_in lines' y.lines) h q y.lines (Ok r.next))
        where
          settles : (l : List XmlEntry) (b : Before d seen y rows l) (x : FrontRead bad d m l h usage at)
              → Settled y.lines (whole l b x) (read l b x).place c last k
          settles l b x = settled_is y.lines (whole l b x) (read l b x).place c last k (e ∙ settled_all l b x)

          pub small_all : Sofar d seen y rows → Given → SmallRow (used_by usage s.filter c)
          small_all z f =
              let b = z.before in
              let x = f z.read b in
              small_row bad d long m z.read b.fine y.lines (lines_of_lem b) h usage at x s r (read z.read b x) c last k
              (settles z.read b x)

          made_is : (l : List XmlEntry) (b : Before d seen y rows l) (x : FrontRead bad d m l h usage at)
              → behind_front bad d m l x.front at
              ≡ Is (record { variable = whole l b x; usage = x.front.title.usage; filter = s.filter }) (read l b x).place
          made_is l b x = entry_is_lem bad d long m l b.fine y.lines (lines_of_lem b) h usage at x s r (read l b x) c last k (settles l b x)

          row_of : (l : List XmlEntry) (b : Before d seen y rows l) (x : FrontRead bad d m l h usage at)
              → used_by usage s.filter c ≡ columns_for y.lines
              (record { variable = whole l b x; usage = x.front.title.usage; filter = s.filter })
          row_of l b x = row_is bad d long m l b.fine y.lines (lines_of_lem b) h usage at x s r (read l b x) c last k (settles l b x)

          same_entry : {v w : XmlEntry} {i j : ℕ} → Is v i ≡ Is w j → v ≡ w
          same_entry e = cc

          pub body_held : (rows' : List ℤ) (o : Entered) → o ≡ entereds.Is c.ident (tally_with y (used_by usage s.filter c) last) k
              → rows' ≡ pasted rows (row_size * y.rows) (row_cells (used_by usage s.filter c))
              → Bodied bad d m seen y h usage at rows rows' lines lines' o
          body_held rows' o a z = record {
            is = λ l b x.
                let t = settles l b x in
                a ∙ by (ident_is bad d long m l b.fine y.lines (lines_of_lem b) h usage at x s r (read l b x) c last k t) (row_of l b x)
                t.last_is t.next_is
                ∙ ap (entered_of y) (sym (made_is l b x));
            row = λ l b x v n f.
                z ∙ ap (λ (c : Columns). pasted rows (row_size * y.rows) (row_cells c)) (row_of l b x)
                ∙ ap (λ (v : XmlEntry). pasted rows (row_size * y.rows) (row_cells (columns_for y.lines v)))
                (same_entry (sym (made_is l b x) ∙ f));
            line = λ l b x v n f.
                let p = read l b x in
                rests.line p.what p.place p.what_is
                ∙ ap (λ (v : XmlEntry). pasted lines (line_size * y.lines) (cells_of (lines_of v.variable)))
                (same_entry (sym (made_is l b x) ∙ f));
          }
            where
              by : {i j n k u v : ℕ} {e f : Columns} → i ≡ j → e ≡ f → n ≡ k → u ≡ v → entereds.Is i (tally_with y e n) u
                  ≡ entereds.Is j (tally_with y f k) v
              by p q r s = rw (p, q, r, s)

-- ---- UP TO THE POSITION
pub record Fronts (bad : Bool) (d : List ℕ) (m : Manner) (l : List XmlEntry) (q e : ℕ) (h : Head) (u n : ℕ) : Type 0 where
  pub read : FrontRead bad d m l h u n
  pub is : front_of bad d m l q e ≡ Is read.front n

front_known : (bad : Bool) (d : List ℕ) (m : Manner) (l : List XmlEntry) (q e : ℕ) {x : Front} {n : ℕ} → front_of bad d m l q e ≡ Is x n
    → Fronts bad d m l q e (head_of x) x.title.usage n
unfolding front_of naming
front_known bad d m l q e {x} {n} f =
    let a = bound (title bad d m.old l q e) _ x n f in
    let b = bound (name_in bad d m l a.place) _ x n a.then_is in
    let c = bound (label_in bad d m.languages b.place) _ x n b.then_is in
    let g = bound (position_in bad d c.place) _ x n c.then_is in
    let k = title_known bad d m.old l q e a.first_is in
    let bw = bound (within_element bad d VARIABLE a.place) _ b.value b.place b.first_is in
    let bd = due_is bad d NAME bw.value (naming bad d m.latin m.standard l) bw.place bw.then_is in
    let bt = bound (text bad d NAME 0 bd.place bw.place) _ b.value b.place bd.then_is in
    let bj = judged_is (fault 52 bt.value.place when has_served m.latin m.standard d l bt.value ∷ []) bt.value bt.place
    bt.then_is in
    let cw = bound (within_element bad d VARIABLE b.place) _ c.value c.place c.first_is in
    let cd = due_is bad d LABEL cw.value (text bad d LABEL (rich m.languages)) cw.place cw.then_is in
    let gw = bound (within_element bad d VARIABLE c.place) _ g.value g.place g.first_is in
    let gd = due_is bad d POSITION gw.value (position bad d) gw.place gw.then_is in
    let s : record { title = a.value; name = b.value; label = c.value; position = g.value } ≡ x = front_inj g.then_is in
    let i : g.place ≡ n = place_inj g.then_is in
    moved (λ (x : Front) (n : ℕ). Fronts bad d m l q e (head_of x) x.title.usage n) s i (record {
      is = f ∙ sym g.then_is;
      read = record {
        front = record { title = a.value; name = b.value; label = c.value; position = g.value };
        head_is = refl;
        usage_is = refl;
        behind = a.place;
        titled = title_fine bad d m.old l q e a.first_is;
        short = k.short;
        typed = k.typed;
        placed = position_fine bad d gd.place gw.place gd.then_is;
        name_in = (moved (Laws.Lying bad d) bj.0 bj.1 (text_long bad d NAME 0 bd.place bw.place bt.first_is)).inside;
        label_in = (text_long bad d LABEL (rich m.languages) cd.place cw.place cd.then_is).inside;
      };
    })
  where
    front_inj : {a b : Front} {i j : ℕ} → Is a i ≡ Is b j → a ≡ b
    front_inj e = cc

    place_inj : {a b : Front} {i j : ℕ} → Is a i ≡ Is b j → i ≡ j
    place_inj e = cc

module _ (bad : Bool) (d : List ℕ) (m : Manner) (seen : List ℕ) (y : Tally) (rows : List ℤ) (q e : ℕ) where
  pub front_given : (r : Fronted) (h : Head) (u n : ℕ) → FrontSaid bad d m rows y.rows seen q e r → r ≡ fronted.Is h u n
      → (l : List XmlEntry) → Before d seen y rows l → Fronts bad d m l q e h u n
  front_given r h u n said f l b = by (front_of bad d m l q e) refl (sym f ∙ said.is l b.held b.idents) where
    moves : {i j : Head} {v w a k : ℕ} → i ≡ j → v ≡ w → a ≡ k → Fronts bad d m l q e j w k → Fronts bad d m l q e i v a
    moves a b c z = rw (a, b, c) z

    by : (z : Result Front) → front_of bad d m l q e ≡ z → fronted.Is h u n ≡ fronted_of z → Fronts bad d m l q e h u n
    by (Is x k) i g =
        let a : h ≡ head_of x = cc in
        let b : u ≡ x.title.usage = cc in
        let c : n ≡ k = cc in
        moves a b c (front_known bad d m l q e i)
    by (Not z) i g = never cc

  variable_front : (l : List XmlEntry) → variable bad d m l q e ≡ bind (front_of bad d m l q e) (behind_front bad d m l)
  unfolding front_of behind_front after_title after_name after_label
  variable_front l = variable_is bad d m l q e ∙ one (title bad d m.old l q e) where
    four : (t : Title) (a b : KeptText) (r : Result Position)
        → bind r (after_position bad d m l t a b)
        ≡ bind (bind r λ p n. Is (record { title = t; name = a; label = b; position = p }) n) (behind_front bad d m l)
    four t a b (Is p n) = refl
    four t a b (Not f) = refl

    inner : (t : Title) (a b : KeptText) (r : Result Open)
        → bind r (λ o k. bind (due bad d POSITION o (position bad d) k) (after_position bad d m l t a b))
        ≡ bind (bind (bind r λ o. due bad d POSITION o (position bad d)) λ p n. Is (record { title = t; name = a; label = b; position = p })
        n) (behind_front bad d m l)
    inner t a b (Is o k) = four t a b (due bad d POSITION o (position bad d) k)
    inner t a b (Not f) = refl

    three : (t : Title) (a : KeptText) (r : Result KeptText)
        → bind r (after_label bad d m l t a)
        ≡ bind (bind r λ b n. bind (position_in bad d n) λ p n. Is (record { title = t; name = a; label = b; position = p }) n)
        (behind_front bad d m l)
    three t a (Is b n) = inner t a b (within_element bad d VARIABLE n)
    three t a (Not f) = refl

    label : (t : Title) (a : KeptText) (r : Result Open)
        → bind r (λ o k. bind (due bad d LABEL o (text bad d LABEL (rich m.languages)) k) (after_label bad d m l t a))
        ≡ bind (bind (bind r λ o. due bad d LABEL o (text bad d LABEL (rich m.languages))) λ b n. bind (position_in bad d n) λ p n. Is
        (record { title = t; name = a; label = b; position = p }) n) (behind_front bad d m l)
    label t a (Is o k) = three t a (due bad d LABEL o (text bad d LABEL (rich m.languages)) k)
    label t a (Not f) = refl

    two : (t : Title) (r : Result KeptText)
        → bind r (after_name bad d m l t)
        ≡ bind (bind r λ a n. bind (label_in bad d m.languages n) λ b n. bind (position_in bad d n) λ p n. Is
        (record { title = t; name = a; label = b; position = p }) n) (behind_front bad d m l)
    two t (Is a n) = label t a (within_element bad d VARIABLE n)
    two t (Not f) = refl

    name : (t : Title) (r : Result Open)
        → bind r (λ o k. bind (due bad d NAME o (naming bad d m.latin m.standard l) k) (after_name bad d m l t))
        ≡ bind (bind (bind r λ o. due bad d NAME o (naming bad d m.latin m.standard l)) λ a n. bind (label_in bad d m.languages n)
        λ b n. bind (position_in bad d n) λ p n. Is (record { title = t; name = a; label = b; position = p }) n) (behind_front bad d m l)
    name t (Is o k) = two t (due bad d NAME o (naming bad d m.latin m.standard l) k)
    name t (Not f) = refl

    one : (r : Result Title)
        → bind r (after_title bad d m l)
        ≡ bind (bind r λ t n. bind (name_in bad d m l n) λ a n. bind (label_in bad d m.languages n) λ b n. bind (position_in bad d n) λ p n.
        Is (record { title = t; name = a; label = b; position = p }) n) (behind_front bad d m l)
    one (Is t n) = name t (within_element bad d VARIABLE n)
    one (Not f) = refl

  module _ (rows' lines lines' : List ℤ) where
    pub joined : (h : Head) (u n : ℕ) (r : Entered) → ((l : List XmlEntry) → Before d seen y rows l → Fronts bad d m l q e h u n)
        → Bodied bad d m seen y h u n rows rows' lines lines' r → Joined d seen y rows rows' lines lines' (λ l. variable bad d m l q e) r
    joined h u n r f b = record {
      is = λ l z. b.is l z (f l z).read ∙ ap (entered_of y) (sym (goes l z));
      row = λ l z v k g. b.row l z (f l z).read v k (sym (goes l z) ∙ g);
      line = λ l z v k g. b.line l z (f l z).read v k (sym (goes l z) ∙ g);
    }
      where
        goes : (l : List XmlEntry) (z : Before d seen y rows l) → variable bad d m l q e ≡ behind_front bad d m l (f l z).read.front n
        goes l z = variable_front l ∙ ap (λ (r : Result Front). bind r (behind_front bad d m l)) (f l z).is

    pub unjoined : (r : Fronted) (g : Fault) → FrontSaid bad d m rows y.rows seen q e r → r ≡ fronted.Not g
        → Joined d seen y rows rows' lines lines' (λ l. variable bad d m l q e) (entereds.Not g)
    unjoined r g said f = record {
      is = λ l z. ap (entered_of y) (sym (stops l z));
      row = λ l z v k i. let a = sym (stops l z) ∙ i in never cc;
      line = λ l z v k i. let a = sym (stops l z) ∙ i in never cc;
    }
      where
        none : (z : Result Front) → fronted.Not g ≡ fronted_of z → z ≡ Not g
        none (Is x k) i = never cc
        none (Not a) i = let b : g ≡ a = cc in ap Not (sym b)

        stops : (l : List XmlEntry) → Before d seen y rows l → variable bad d m l q e ≡ Not g
        stops l z =
            variable_front l
            ∙ ap (λ (r : Result Front). bind r (behind_front bad d m l))
            (none (front_of bad d m l q e) (sym f ∙ said.is l z.held z.idents))
