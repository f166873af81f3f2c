-- Every element, and the whole file, as the rule of XML reads them: refused with numbers that XML has, never with 3; and no loop runs out.
use Rattle.std.specs.Prelude.{◌≡◌, Bool, cond, ℕ, zero, suc, ◌+◌, ◌-◌, ◌<◌, eqb, ltb, take, drop}
use Rattle.std.proofs.Math.Path.{refl, ap}
use Rattle.std.proofs.Common.{sym, ◌∙◌, arith}
use Rattle.std.proofs.Math.Bool.{true, false}
use mathlib.Core.List.{List, [], ◌∷◌, ◌++◌}
use Rattle.std.proofs.Math.Option.{Option, none, some, get_or}
use Rattle.std.proofs.Math.ListN.{length, length-append}
use borrow.Author.Tests.{leb-false}
use Rattle.layout.specs.rule.Layout.{most_rows, most_lines}
use Rattle.scan.specs.rule.Loop.{Next, Again, Done}
use Rattle.markup.specs.declared.Skip.{Skip}
use Rattle.markup.specs.declared.Skip.TheVariants as skip
use Rattle.utf.specs.rule.Cut.{first_bad}
use Rattle.tags.specs.declared.Held.{Held}
use Rattle.tags.specs.declared.Tag.{Tag}
use Rattle.tags.specs.declared.Tag.TheVariants as tag
use Rattle.tags.specs.rule.Tag.{is_named, tag_of}
use Rattle.markup.specs.rule.Bytes.{stands}
use Rattle.spans.specs.rule.Heard.{heard}
use Rattle.forms.specs.rule.Form.{fits_of}
use Rattle.names.specs.rule.Standard.{name_fault}
use Rattle.pairs.specs.declared.Stand.{Stand}
use Rattle.pairs.specs.declared.Stand.TheVariants as stand
use Rattle.pairs.specs.declared.Pair.{Pair}
use Rattle.pairs.specs.declared.Pair.TheVariants as pair
use Rattle.pairs.specs.rule.Stand.{stand_of, stand_at, shut_of, bare_of}
use Rattle.pairs.specs.rule.Pair.{pair_of}
use Rattle.contents.specs.declared.Content as contents
use Rattle.contents.specs.declared.Content.TheVariants as content
use Rattle.contents.specs.rule.Content.{content_of}
use Rattle.prologs.specs.rule.Told.{declaration_of, head_of, tail_from}
use Rattle.prologs.specs.declared.Prolog.{Prolog}
use Rattle.prologs.specs.declared.Prolog.TheVariants as prolog
use Rattle.prologs.specs.declared.Tail.{Tail}
use Rattle.prologs.specs.declared.Tail.TheVariants as tail
use Rattle.tokens.specs.declared.Fault.{Fault}
use Rattle.tokens.specs.rule.Gap.{fault}
use Rattle.survey.specs.rule.Survey.{Figure, Amount, KeptText, Line, Block, Content, Variable}
use Rattle.survey.specs.rule.Table.{lines_all}
use Rattle.reading.specs.rule.Result.{Result, Is, Not, Reader, ◌>>=◌, give, bind, repeat, turn}
use Rattle.reading.specs.rule.Least.{Charge, ◌when◌, named, goes_before, Finding, clean, first, lower, least, found, judged}
use Rattle.reading.specs.rule.Statement.{Position, position_charges, spread_charges, size_charges}
use Rattle.reading.specs.rule.Values.{line_charges, with_line}
use Rattle.bridge.specs.Lowest.{never, Clear, clear}
use Rattle.reading.specs.rule.Variable.{ident_charges, room, variable_of, held}
use Rattle.xml_reading.specs.rule.Word.{SSS, VERSION, OPTIONS, LANGUAGES, DATE, TIME, ORIGIN, USER, SURVEY, NAME, TITLE, RECORD, IDENT}
use Rattle.xml_reading.specs.rule.Word.{HREF}
use Rattle.xml_reading.specs.rule.Word.{VARIABLE, TYPE, USE, LABEL, POSITION, FILTER, SPREAD, VALUES, SIZE, START, FINISH, SUBFIELDS, WIDTH}
use Rattle.xml_reading.specs.rule.Word.{RANGE, VALUE, FROM, TO, CODE}
use Rattle.xml_reading.specs.rule.Open.{Open, start, shut, on_shut, unknown_at, opened, within_element, on_bare, misplaced, refuse, due}
use Rattle.xml_reading.specs.rule.Open.{over}
use Rattle.xml_reading.specs.rule.Open.{on_tag}
use Rattle.xml_reading.specs.rule.Open.{on_pair, nothing, entered}
use Rattle.xml_reading.specs.rule.Open as opens
use Rattle.xml_reading.specs.rule.Element.{Body, amount_in, on_content, body, text, position, spread, size_in, size}
use Rattle.xml_reading.specs.rule.Block as block
use Rattle.xml_reading.specs.rule.Role.{XmlEntry, variables_of, title, naming, filter}
use Rattle.xml_reading.specs.rule.Variable.{Manner, Then, filtered, spreading, ended}
use Rattle.xml_reading.specs.rule.Variable as variable
use Rattle.xml_reading.specs.rule.Sheet.{no_root, rooted, headed, root, manner, perhaps_element, heading, survey, titles, record_tag}
use Rattle.xml_reading.specs.rule.Sheet.{preface}
use Rattle.xml_reading.specs.rule.Sheet.{variables, cleared, sheet_closed}
use Rattle.xml_reading.specs.rule.Sheet as sheet
use Rattle.xml_reading.specs.rule.Whole.{XmlOutcome, Built, Refusal, xml_table, xml_names, xml_fitting, judge_xml_names, xml_settled}
use Rattle.xml_reading.specs.rule.Whole.{sheet_of}
use Rattle.xml_reading.specs.rule.Whole.{declared}
use Rattle.xml_reading.specs.rule.Whole.{xml_outcome}
use Rattle.xml_laws.specs.Reads as reads
use Rattle.xml_laws.specs.Entries as entries
use Rattle.refusals.specs.Scanned.{either}
use Rattle.kind_laws.specs.Leaves.{Free, TagFree, tag_free, bare_free, PairFree, pair_free, ContentFree, content_free}
use Rattle.kind_laws.specs.Leaves.{PrologFree, declaration_free, head_free, TailFree, tail_free}

-- what was read has this, or what is refused has a number that XML has
abbrev Having : {A : Type 0} → (A → Type 0) → Result A → Type 0
Having P (Is a n) = P a
Having P (Not f) = Free f.number

abbrev Fine : {A : Type 0} → Result A → Type 0
Fine (Is a n) = Unit
Fine (Not f) = Free f.number

bind_having : {A B : Type 0} (P : A → Type 0) (r : Result A) (k : A → Reader B) → Having P r → ((a : A) (n : ℕ) → P a → Fine (k a n))
    → Fine (bind r k)
bind_having P (Is a n) k h w = w a n h
bind_having P (Not f) k h w = h

bind_fine : {A B : Type 0} (r : Result A) (k : A → Reader B) → Fine r → ((a : A) (n : ℕ) → Fine (k a n)) → Fine (bind r k)
bind_fine (Is a n) k h w = w a n
bind_fine (Not f) k h w = h

-- ---- charges
abbrev Frees : List Charge → Type 0
Frees [] = Unit
Frees (f when q ∷ l) = Free f.number × Frees l

frees_both : (l m : List Charge) → Frees l → Frees m → Frees (l ++ m)
frees_both [] m h k = k
frees_both (f when q ∷ l) m h k = (h.0, frees_both l m h.1 k)

abbrev FindingFree : Finding → Type 0
FindingFree clean = Unit
FindingFree (first f) = Free f.number

lower_free : (f : Fault) (x : Finding) → Free f.number → FindingFree x → FindingFree (lower f x)
unfolding lower
lower_free f clean h k = h
lower_free f (first g) h k = either FindingFree (goes_before f g) h k

least_free : (l : List Charge) → Frees l → FindingFree (least (named l))
unfolding least named
least_free [] h = tt
least_free (f when q ∷ l) h =
    either (λ (m : List Fault). FindingFree (least m)) q (lower_free f (least (named l)) h.0 (least_free l h.1)) (least_free l h.1)

judged_fine : {A : Type 0} (l : List Charge) (a : A) (n : ℕ) → Frees l → Fine (judged l a n)
unfolding judged
judged_fine l a n h = by (least (named l)) (least_free l h) where
  by : (x : Finding) → FindingFree x → Fine (found a n x)
  by clean k = tt
  by (first f) k = k

position_frees : (a b : Figure) → Frees (position_charges a b)
unfolding position_charges
position_frees a b = (refl, (refl, (refl, (refl, tt))))

spread_frees : (room : ℕ) (n : Figure) (w : Option Figure) → Frees (spread_charges room n w)
unfolding spread_charges
spread_frees room n none = (refl, (refl, tt))
spread_frees room n (some w) = (refl, (refl, tt))

size_frees : (n : Figure) → Frees (size_charges n)
unfolding size_charges
size_frees n = (refl, (refl, tt))

range_frees : (q : Bool) (a b : Amount) → Frees (block.pair_charges q a b)
unfolding block.pair_charges
range_frees q a b = (refl, (refl, (refl, (refl, (refl, (refl, tt))))))

line_frees : (q : Bool) (goes_before : ℕ) (b : Block) (a : Amount) → Frees (line_charges q goes_before b a)
unfolding line_charges
line_frees q goes_before b a = (refl, (refl, (refl, (refl, (refl, tt)))))

ident_frees : (l : List Variable) (n : Figure) → Frees (ident_charges l n)
unfolding ident_charges
ident_frees l n = (refl, (refl, (refl, (refl, tt))))

-- ---- again and again, in more turns than there may be
repeat_fine : {S A : Type 0} (go : S → Reader (Next S A)) (left : S → ℕ) → ((s : S) (n : ℕ) → Fine (go s n))
    → ((s : S) (n : ℕ) (r : S) (m : ℕ) → go s n ≡ Is (Again r) m → left r < left s) → (f : ℕ) (s : S) (n : ℕ) → left s < f
    → Fine (repeat f go s n)
unfolding repeat
repeat_fine go left h k zero s n l = absurd (omega arith)
repeat_fine {S} {A} go left h k (suc f) s n l = by (λ r m i. repeat_fine go left h k f r m i) (go s n) refl (h s n) where
  by : ((r : S) (m : ℕ) → left r < f → Fine (repeat f go r m)) → (x : Result (Next S A)) → go s n ≡ x → Fine x
      → Fine (bind x (turn (repeat f go)))
  by w (Is (Again r) m) e u = let z = k s n r m e in w r m (omega arith)
  by w (Is (Done a) m) e u = tt
  by w (Not x) e u = u

module _ (bad : Bool) (d : List ℕ) where
  -- ---- where a tag is due
  within_fine : (w : List ℕ) (n : ℕ) → Fine (within_element bad d w n)
  unfolding within_element
  within_fine w n = by (stand_of bad d n) where
    closed : (p : ℕ) (s : Skip) → Fine (on_shut p s)
    closed p (skip.Past m) = tt
    closed p (skip.Broken q) = refl

    by : (s : Stand) → Fine (opened bad d w s)
    by (stand.Start p e) = tt
    by (stand.Close p e) = closed p (shut_of bad d p e w)
    by (stand.Foreign p) = refl
    by (stand.Text p) = refl
    by (stand.Broken p) = refl

  misplaced_fine : (A : Type 0) (p n : ℕ) → Fine {A = A} (misplaced bad d p n)
  misplaced_fine A p n = by (bare_of bad d p n) (bare_free bad d p n) where
    by : (t : Tag) → TagFree t → Fine {A = A} (on_bare bad d p t)
    by (tag.Read h empty q m) k = refl
    by (tag.Fault number q) k = k

  either_fine : {A : Type 0} (w : List ℕ) (o : Open) (k : ℕ → Reader A) (q : Reader A) (n : ℕ) → ((p : ℕ) → Fine (k p n)) → Fine (q n)
      → Fine (opens.either_element bad d w o k q n)
  either_fine w (start p) k q n h g = either Fine (is_named d (p + 1) n w) (h p) g
  either_fine w (shut p) k q n h g = g

  refuse_fine : (A : Type 0) (o : Open) (n : ℕ) → Fine {A = A} (refuse bad d o n)
  refuse_fine A (start p) n = misplaced_fine A p n
  refuse_fine A (shut p) n = refl

  due_fine : {A : Type 0} (w : List ℕ) (o : Open) (k : ℕ → Reader A) (n : ℕ) → ((p : ℕ) → Fine (k p n)) → Fine (due bad d w o k n)
  due_fine {A} w o k n h = either_fine w o k (refuse bad d o) n h (refuse_fine A o n)

  over_fine : (o : Open) (n : ℕ) → Fine (over bad d o n)
  over_fine (start p) n = misplaced_fine Unit p n
  over_fine (shut p) n = tt

  tag_fine : {A : Type 0} (t : Tag) (k : Held → Bool → ℕ → Reader A) → TagFree t
      → ((h : Held) (empty : Bool) (q n : ℕ) → Fine (k h empty q n))
      → Fine (on_tag bad d t k)
  tag_fine (tag.Read h empty p n) k g w = w h empty p n
  tag_fine (tag.Fault number p) k g w = g

  nothing_fine : (w : List ℕ) (empty : Bool) (n : ℕ) → Having Frees (nothing bad d w empty n)
  unfolding nothing
  nothing_fine w empty n = either (Having Frees) empty tt (by (pair_of bad d n w) (pair_free bad d n w)) where
    by : (x : Pair) → PairFree x → Having Frees (on_pair bad d x)
    by (pair.Past m) k = tt
    by (pair.Cut p) k = (refl, tt)
    by (pair.Fault number p) k = k

  entered_fine : {A : Type 0} (l : List Charge) (a : A) (empty : Bool) (p n : ℕ) → Frees l → Fine (entered bad d l a empty p n)
  entered_fine l a empty p n h = bind_fine (judged l a n) _ (judged_fine l a n h) (λ b m. either Fine empty refl tt)

  -- ---- statements
  abbrev Charged : Body → Type 0
  Charged b = Frees b.charges

  body_fine : (w : List ℕ) (m : ℕ) (empty : Bool) (n : ℕ) → Having Charged (body bad d w m empty n)
  unfolding body
  body_fine w m empty n = either (Having Charged) empty tt (by (content_of bad d m w n) (content_free bad d m w n)) where
    by : (x : contents.Content) → ContentFree x → Having Charged (on_content n x)
    by (content.Read end k u) f = (refl, tt)
    by (content.Cut p u) f = (refl, (refl, tt))
    by (content.Fault number p) f = f

  text_fine : (w : List ℕ) (m p e : ℕ) → Fine (text bad d w m p e)
  unfolding text
  text_fine w m p e =
      tag_fine (bare_of bad d p e) _ (bare_free bad d p e) λ h empty q n.
      bind_having Charged (body bad d w m empty n) _ (body_fine w m empty n) λ b k f. judged_fine (unknown_at h.unknown ∷ b.charges)
      b.text k (refl, f)

  position_fine : (p e : ℕ) → Fine (position bad d p e)
  unfolding position
  position_fine p e =
      tag_fine (tag_of bad d p e START FINISH [] 1 1 0 1) _ (tag_free bad d p e START FINISH [] 1 1 0 1) λ h empty q n.
      bind_having Frees (nothing bad d POSITION empty n) _ (nothing_fine POSITION empty n) λ l k f.
      judged_fine _ _ k (frees_both (position_charges _ _) (unknown_at h.unknown ∷ l) (position_frees _ _) (refl, f))

  spread_fine : (room p e : ℕ) → Fine (spread bad d room p e)
  unfolding spread
  spread_fine room p e =
      tag_fine (tag_of bad d p e SUBFIELDS WIDTH [] 1 1 0 1) _ (tag_free bad d p e SUBFIELDS WIDTH [] 1 1 0 1) λ h empty q n.
      bind_having Frees (nothing bad d SPREAD empty n) _ (nothing_fine SPREAD empty n) λ l k f.
      judged_fine _ _ k (frees_both (spread_charges room _ _) (unknown_at h.unknown ∷ l) (spread_frees room _ _) (refl, f))

  size_fine : (p e : ℕ) → Fine (size bad d p e)
  unfolding size size_in
  size_fine p e =
      tag_fine (bare_of bad d p e) _ (bare_free bad d p e) λ h empty q n.
      bind_having Charged (body bad d SIZE 0 empty n) _ (body_fine SIZE 0 empty n) λ b k f.
      either Fine b.whole
      (either Fine (fits_of 1 (heard (take (b.text.place + b.text.length - b.text.place) (drop b.text.place d)) 0))
      (judged_fine _ _ k (frees_both (size_charges _) (unknown_at h.unknown ∷ b.charges) (size_frees _) (refl, f))) refl)
      (judged_fine _ _ k (refl, f))

  -- ---- values
  range_fine : (quantity : Bool) (p e : ℕ) → Fine (block.range bad d quantity p e)
  unfolding block.range
  range_fine quantity p e =
      tag_fine (tag_of bad d p e FROM TO [] 2 2 0 2) _ (tag_free bad d p e FROM TO [] 2 2 0 2) λ h empty q n.
      bind_having Frees (nothing bad d RANGE empty n) _ (nothing_fine RANGE empty n) λ l k f.
      judged_fine _ _ k (frees_both (block.pair_charges quantity _ _) (unknown_at h.unknown ∷ l) (range_frees quantity _ _) (refl, f))

  line_fine : (languages quantity : Bool) (goes_before : ℕ) (b : Block) (p e : ℕ)
      → Fine (block.line bad d languages quantity goes_before b p e)
  unfolding block.line
  line_fine languages quantity goes_before b p e =
      tag_fine (tag_of bad d p e CODE [] [] 2 0 0 1) _ (tag_free bad d p e CODE [] [] 2 0 0 1) λ h empty q n.
      bind_having Charged (body bad d VALUE (block.rich languages) empty n) _ (body_fine VALUE (block.rich languages) empty n) λ t k f.
      judged_fine _ _ k (frees_both (line_charges quantity goes_before b _) (unknown_at h.unknown ∷ t.charges)
      (line_frees quantity goes_before b _)
      (refl, f))

  module _ (languages quantity : Bool) (goes_before : ℕ) where
    lined_fine : (b : Block) (p n : ℕ) → Fine (block.lined bad d languages quantity goes_before b p n)
    lined_fine b p n = bind_fine (block.line bad d languages quantity goes_before b p n) _ (line_fine languages quantity goes_before b p n)
        (λ l m. tt)

    on_open : (b : Block) (o : Open) (n : ℕ) → Fine (block.on_open bad d languages quantity goes_before b o n)
    on_open b (start p) n =
        due_fine VALUE (start p) (λ q. block.lined bad d languages quantity goes_before b q >>= λ c. give (Again c)) n
        (λ q. bind_fine (block.lined bad d languages quantity goes_before b q n) _ (lined_fine b q n) (λ c m. tt))
    on_open b (shut p) n = tt

    another_fine : (b : Block) (n : ℕ) → Fine (block.another_line bad d languages quantity goes_before b n)
    unfolding block.another_line
    another_fine b n = bind_fine (within_element bad d VALUES n) _ (within_fine VALUES n) (on_open b)

    -- a line more is one fewer to come
    few_lines : (b : Block) (a : Amount) (l : List Charge) → Clear (line_charges quantity goes_before b a ++ l)
        → goes_before + length b.lines < most_lines
    unfolding line_charges
    few_lines b a l (clear p (clear q (clear r (clear s (clear t u))))) = leb-false most_lines (goes_before + length b.lines) t

    grown : (b : Block) (l : Line) {c : Block} → with_line b l ≡ c → length c.lines ≡ length b.lines + 1
    grown b l e = sym (ap (λ (z : Block). length z.lines) e) ∙ length-append b.lines (l ∷ [])

    line_few : (b : Block) (p e : ℕ) (l : Line) (m : ℕ) → block.line bad d languages quantity goes_before b p e ≡ Is l m
        → goes_before + length b.lines < most_lines
    unfolding block.line
    line_few b p e l m f =
        let o = reads.opened bad d (tag_of bad d p e CODE [] [] 2 0 0 1) _ l m f in
        let h = o.held in
        let a = amount_in d h.a h.ae in
        let t = reads.bound (body bad d VALUE (block.rich languages) o.empty o.next) _ l m o.then_is in
        let c = unknown_at h.unknown ∷ t.value.charges in
        few_lines b a c (reads.judged_is (line_charges quantity goes_before b a ++ c)
        (record { value = a; text = t.value.text; special = false })
        t.place t.then_is).2

    more_lines : (b : Block) (n : ℕ) (c : Block) (m : ℕ) → block.another_line bad d languages quantity goes_before b n ≡ Is (Again c) m
        → most_lines - (goes_before + length c.lines) < most_lines - (goes_before + length b.lines)
    unfolding block.another_line
    more_lines b n c m f =
        let a = reads.bound (within_element bad d VALUES n) (block.on_open bad d languages quantity goes_before b) (Again c) m f in
        by a.value a.place a.then_is where
          by : (o : Open) (k : ℕ) → block.on_open bad d languages quantity goes_before b o k ≡ Is (Again c) m
              → most_lines - (goes_before + length c.lines) < most_lines - (goes_before + length b.lines)
          by (start p) k f =
              let u = entries.due_is bad d VALUE (start p)
              (λ q. block.lined bad d languages quantity goes_before b q >>= λ c. give (Again c)) k
              f in
              let v = reads.bound (block.lined bad d languages quantity goes_before b u.place k) (λ c. give (Again c)) (Again c) m
              u.then_is in
              let w = reads.bound (block.line bad d languages quantity goes_before b u.place k) (λ l. give (with_line b l)) v.value
              v.place v.first_is in
              let x = w.then_is in
              let y = v.then_is in
              let i : with_line b w.value ≡ c = cc in
              omega (arith, line_few b u.place k w.value w.place w.first_is, grown b w.value i)
          by (shut p) k f = never cc

    first_fine : (n : ℕ) → Fine (block.first bad d languages quantity goes_before n)
    unfolding block.first
    first_fine n =
        bind_fine (within_element bad d VALUES n) _ (within_fine VALUES n) λ o m.
        either_fine RANGE o _ _ m (λ p. bind_fine (block.range bad d quantity p m) _ (range_fine quantity p m) (λ r k. tt))
        (due_fine VALUE o _ m (λ p. lined_fine _ p m))

    turns_enough : (b : Block) → most_lines - (goes_before + length b.lines) < suc most_lines
    turns_enough b = omega arith

    values_fine : (p e : ℕ) → Fine (block.values bad d languages quantity goes_before p e)
    unfolding block.values
    values_fine p e =
        tag_fine (bare_of bad d p e) _ (bare_free bad d p e) λ h empty q n.
        bind_fine (entered bad d (unknown_at h.unknown ∷ []) tt empty q n) _
        (entered_fine (unknown_at h.unknown ∷ []) tt empty q n (refl, tt)) λ u m.
        bind_fine (block.first bad d languages quantity goes_before m) _ (first_fine m) λ b k.
        repeat_fine (block.another_line bad d languages quantity goes_before) (λ c. most_lines - (goes_before + length c.lines))
        another_fine
        more_lines
        (suc most_lines) b k (turns_enough b)

  -- ---- a variable
  title_fine : (old : Bool) (earlier : List XmlEntry) (p e : ℕ) → Fine (title bad d old earlier p e)
  unfolding title
  title_fine old earlier p e =
      tag_fine (tag_of bad d p e IDENT TYPE (cond old [] USE) 1 4 (cond old 0 5) 2) _
      (tag_free bad d p e IDENT TYPE (cond old [] USE) 1 4 (cond old 0 5) 2)
      λ h empty q n. entered_fine _ _ empty q n (frees_both (ident_charges _ _) _ (ident_frees _ _) (refl, (refl, tt)))

  module _ (latin standard : Bool) (earlier : List XmlEntry) where
    naming_fine : (p n : ℕ) → Fine (naming bad d latin standard earlier p n)
    unfolding naming
    naming_fine p n = bind_fine (text bad d NAME 0 p n) _ (text_fine NAME 0 p n) (λ t m. judged_fine _ _ m (refl, tt))

    filter_fine : (name : KeptText) (usage p n : ℕ) → Fine (filter bad d latin standard earlier name usage p n)
    unfolding filter
    filter_fine name usage p n = bind_fine (text bad d FILTER 0 p n) _ (text_fine FILTER 0 p n) (λ t m. judged_fine _ _ m (refl, tt))

  module _ (m : Manner) where
    inside_fine : (n : ℕ) → Fine (within_element bad d VARIABLE n)
    inside_fine n = within_fine VARIABLE n

    filtered_fine : (earlier : List XmlEntry) (name : KeptText) (usage : ℕ) (o : Open) (n : ℕ)
        → Fine (filtered bad d m earlier name usage o n)
    unfolding filtered
    filtered_fine earlier name usage o n =
        either (λ (r : Reader (Then ℕ)). Fine (r n)) m.old tt
        (either_fine FILTER o _ _ n
        (λ p. bind_fine (filter bad d m.latin m.standard earlier name usage p n) _
        (filter_fine m.latin m.standard earlier name usage p n)
        λ f k. bind_fine (within_element bad d VARIABLE k) _ (inside_fine k) (λ o i. tt))
        tt)

    spreading_fine : (room : ℕ) (o : Open) (n : ℕ) → Fine (spreading bad d m room o n)
    unfolding spreading
    spreading_fine room o n =
        either_fine SPREAD o _ _ n
        (λ p. bind_fine (spread bad d room p n) _ (spread_fine room p n) λ s k. bind_fine (within_element bad d VARIABLE k) _
        (inside_fine k)
        (λ o i. tt))
        tt

    block_fine : (quantity : Bool) (goes_before : ℕ) (o : Open) (n : ℕ) → Fine (variable.block bad d m quantity goes_before o n)
    block_fine quantity goes_before o n = due_fine VALUES o _ n (λ p. values_fine m.languages quantity goes_before p n)

    ended_fine : (c : Content) (n : ℕ) → Fine (ended bad d m c n)
    ended_fine c n =
        bind_fine (within_element bad d VARIABLE n) _ (inside_fine n) λ o k. bind_fine (over bad d o k) _ (over_fine o k) (λ u i. tt)

    module _ (p : Position) (goes_before : ℕ) (o : Open) (n : ℕ) where
      abbrev Here : Reader Content → Type 0
      Here r = Fine (r n)

      content_fine : (t : ℕ) → Fine (variable.content bad d m p goes_before t o n)
      unfolding variable.content
      content_fine t =
          either Here (eqb t 1) (bind_fine (variable.block bad d m false goes_before o n) _ (block_fine false goes_before o n)
          (λ b k. ended_fine _ k))
          (either Here (eqb t 2)
          (bind_fine (spreading bad d m (room p) o n) _ (spreading_fine (room p) o n) λ s k.
          bind_fine (variable.block bad d m false goes_before s.behind k) _ (block_fine false goes_before s.behind k)
          (λ b i. ended_fine _ i))
          (either Here (eqb t 3) (bind_fine (variable.block bad d m true goes_before o n) _ (block_fine true goes_before o n)
          (λ b k. ended_fine _ k))
          (either Here (eqb t 4)
          (bind_fine (due bad d SIZE o (size bad d) n) _ (due_fine SIZE o _ n (λ q. size_fine q n)) (λ x k. ended_fine _ k))
          (bind_fine (over bad d o n) _ (over_fine o n) (λ u k. tt)))))

    variable_fine : (earlier : List XmlEntry) (q e : ℕ) → Fine (variable.variable bad d m earlier q e)
    unfolding variable.variable
    variable_fine earlier q e =
        bind_fine (title bad d m.old earlier q e) _ (title_fine m.old earlier q e) λ t n.
        bind_fine (within_element bad d VARIABLE n) _ (inside_fine n) λ o n.
        bind_fine (due bad d NAME o (naming bad d m.latin m.standard earlier) n) _
        (due_fine NAME o _ n (λ p. naming_fine m.latin m.standard earlier p n)) λ name n.
        bind_fine (within_element bad d VARIABLE n) _ (inside_fine n) λ o n.
        bind_fine (due bad d LABEL o (text bad d LABEL (block.rich m.languages)) n) _
        (due_fine LABEL o _ n (λ p. text_fine LABEL (block.rich m.languages) p n)) λ label n.
        bind_fine (within_element bad d VARIABLE n) _ (inside_fine n) λ o n.
        bind_fine (due bad d POSITION o (position bad d) n) _ (due_fine POSITION o _ n (λ p. position_fine p n)) λ p n.
        bind_fine (within_element bad d VARIABLE n) _ (inside_fine n) λ o n.
        bind_fine (filtered bad d m earlier name t.usage o n) _ (filtered_fine earlier name t.usage o n) λ f n.
        bind_fine (variable.content bad d m p (lines_all (variables_of earlier)) t.type f.behind n) _
        (content_fine p (lines_all (variables_of earlier)) f.behind n t.type) λ c n.
        bind_fine (held (variable_of t.ident name label p c) n) _ (judged_fine _ _ n (refl, tt)) (λ v k. tt)

  -- ---- the whole
  root_fine : (latin : Bool) (n : ℕ) → Fine (root bad d latin n)
  unfolding root
  root_fine latin n = by (head_of bad latin d n) (head_free bad latin d n) where
    closed : (s : Skip) → Fine (no_root bad d s)
    closed (skip.Past k) = refl
    closed (skip.Broken p) = refl

    stood : (s : Stand) → Fine (rooted bad d s)
    stood (stand.Start p e) = either Fine (is_named d (p + 1) e SSS) tt (misplaced_fine ℕ p e)
    stood (stand.Close p e) = closed (shut_of bad d p e [])
    stood (stand.Foreign p) = either (λ (k : ℕ). Free k) (stands (60 ∷ 63 ∷ []) (drop p d)) refl refl
    stood (stand.Text p) = refl
    stood (stand.Broken p) = refl

    by : (x : Prolog) → PrologFree x → Fine (headed bad d x)
    by (prolog.Read l k) h = stood (stand_at bad d k)
    by (prolog.Fault number p) h = h

  manner_fine : (latin : Bool) (p e : ℕ) → Fine (manner bad d latin p e)
  unfolding manner
  manner_fine latin p e =
      tag_fine (tag_of bad d p e VERSION OPTIONS LANGUAGES 0 6 0 1) _ (tag_free bad d p e VERSION OPTIONS LANGUAGES 0 6 0 1) λ h empty q n.
      entered_fine _ _ empty q n (refl, (refl, (refl, tt)))

  perhaps_fine : (around w : List ℕ) (k : ℕ) (o : Open) (n : ℕ) → Fine (perhaps_element bad d around w k o n)
  unfolding perhaps_element
  perhaps_fine around w k o n =
      either_fine w o _ _ n (λ p. bind_fine (text bad d w k p n) _ (text_fine w k p n) (λ t i. within_fine around i)) tt

  heading_fine : (n : ℕ) → Fine (heading bad d n)
  unfolding heading
  heading_fine n =
      bind_fine (within_element bad d SSS n) _ (within_fine SSS n) λ o n.
      bind_fine (perhaps_element bad d SSS DATE 0 o n) _ (perhaps_fine SSS DATE 0 o n) λ o n.
      bind_fine (perhaps_element bad d SSS TIME 0 o n) _ (perhaps_fine SSS TIME 0 o n) λ o n.
      bind_fine (perhaps_element bad d SSS ORIGIN 0 o n) _ (perhaps_fine SSS ORIGIN 0 o n) λ o n. perhaps_fine SSS USER 0 o n

  survey_fine : (p e : ℕ) → Fine (survey bad d p e)
  unfolding survey
  survey_fine p e = tag_fine (bare_of bad d p e) _ (bare_free bad d p e) (λ h empty q n. entered_fine _ _ empty q n (refl, tt))

  titles_fine : (m : Manner) (n : ℕ) → Fine (titles bad d m n)
  unfolding titles
  titles_fine m n =
      bind_fine (within_element bad d SURVEY n) _ (within_fine SURVEY n) λ o n.
      bind_fine (cond m.old (give o) (perhaps_element bad d SURVEY NAME 0 o >>= perhaps_element bad d SURVEY VERSION 0) n) _
      (either (λ (r : Reader Open). Fine (r n)) m.old tt
      (bind_fine (perhaps_element bad d SURVEY NAME 0 o n) _ (perhaps_fine SURVEY NAME 0 o n) (λ o n. perhaps_fine SURVEY VERSION 0 o n)))
      λ o n.
      perhaps_fine SURVEY TITLE (block.rich m.languages) o n

  record_fine : (m : Manner) (p e : ℕ) → Fine (record_tag bad d m p e)
  unfolding record_tag
  record_fine m p e =
      tag_fine (tag_of bad d p e IDENT (cond m.old [] HREF) [] 3 0 0 1) _ (tag_free bad d p e IDENT (cond m.old [] HREF) [] 3 0 0 1)
      λ h empty q n.
      entered_fine _ _ empty q n (refl, tt)

  preface_fine : (latin : Bool) (n : ℕ) → Fine (preface bad d latin n)
  unfolding preface
  preface_fine latin n =
      bind_fine (root bad d latin n) _ (root_fine latin n) λ p n.
      bind_fine (manner bad d latin p n) _ (manner_fine latin p n) λ m n.
      bind_fine (heading bad d n) _ (heading_fine n) λ o n.
      bind_fine (due bad d SURVEY o (survey bad d) n) _ (due_fine SURVEY o _ n (λ p. survey_fine p n)) λ u n.
      bind_fine (titles bad d m n) _ (titles_fine m n) λ o n.
      bind_fine (due bad d RECORD o (record_tag bad d m) n) _ (due_fine RECORD o _ n (λ p. record_fine m p n)) (λ u n. tt)

  module _ (m : Manner) where
    opens_fine : (l : List XmlEntry) (o : Open) (n : ℕ) → Fine (sheet.on_open bad d m l o n)
    opens_fine l (start p) n =
        due_fine VARIABLE (start p) (λ q. variable.variable bad d m l q >>= λ v. give (Again (l ++ v ∷ []))) n
        (λ q. bind_fine (variable.variable bad d m l q n) _ (variable_fine m l q n) (λ v k. tt))
    opens_fine l (shut p) n = tt

    more_fine : (l : List XmlEntry) (n : ℕ) → Fine (sheet.another_element bad d m l n)
    unfolding sheet.another_element
    more_fine l n = bind_fine (within_element bad d RECORD n) _ (within_fine RECORD n) (opens_fine l)

    -- a variable more is one fewer to come
    variable_few : (l : List XmlEntry) (q n : ℕ) (v : XmlEntry) (k : ℕ) → variable.variable bad d m l q n ≡ Is v k → length l < most_rows
    unfolding variable.variable
    variable_few l q n v k f =
        let t = reads.bound (title bad d m.old l q n) _ v k f in
        (entries.title_fine bad d m.old l q n t.first_is).left

    more_rows : (l : List XmlEntry) (n : ℕ) (r : List XmlEntry) (k : ℕ) → sheet.another_element bad d m l n ≡ Is (Again r) k
        → most_rows - length r < most_rows - length l
    unfolding sheet.another_element
    more_rows l n r k f =
        let a = reads.bound (within_element bad d RECORD n) (sheet.on_open bad d m l) (Again r) k f in
        by a.value a.place a.then_is where
          by : (o : Open) (i : ℕ) → sheet.on_open bad d m l o i ≡ Is (Again r) k → most_rows - length r < most_rows - length l
          by (start p) i f =
              let u = entries.due_is bad d VARIABLE (start p) (λ q. variable.variable bad d m l q >>= λ v. give (Again (l ++ v ∷ []))) i
              f in
              let v = reads.bound (variable.variable bad d m l u.place i) (λ v. give (Again (l ++ v ∷ []))) (Again r) k u.then_is in
              let x = v.then_is in
              let j : l ++ v.value ∷ [] ≡ r = cc in
              let h = ap length j in
              omega (arith, variable_few l u.place i v.value v.place v.first_is, length-append l (v.value ∷ []))
          by (shut p) i f = never cc

    variables_fine : (n : ℕ) → Fine (variables bad d m n)
    unfolding variables
    variables_fine n =
        bind_fine (within_element bad d RECORD n) _ (within_fine RECORD n) λ o n.
        bind_fine (due bad d VARIABLE o (variable.variable bad d m []) n) _ (due_fine VARIABLE o _ n (λ p. variable_fine m [] p n)) λ v n.
        repeat_fine (sheet.another_element bad d m) (λ l. most_rows - length l) more_fine more_rows (suc most_rows) (v ∷ []) n (omega arith)

  closing_fine : (n : ℕ) → Fine (sheet_closed bad d n)
  unfolding sheet_closed
  closing_fine n =
      bind_fine (within_element bad d SURVEY n) _ (within_fine SURVEY n) λ o n.
      bind_fine (over bad d o n) _ (over_fine o n) λ u n.
      bind_fine (within_element bad d SSS n) _ (within_fine SSS n) λ o n.
      bind_fine (over bad d o n) _ (over_fine o n) λ u n. by (tail_from bad d n) (tail_free bad d n) n
    where
      by : (t : Tail) → TailFree t → (n : ℕ) → Fine (cleared bad d t n)
      by tail.Clean h n = tt
      by (tail.Foul number p) h n = h

  sheet_fine : (latin : Bool) (n : ℕ) → Fine (sheet.sheet bad d latin n)
  unfolding sheet.sheet
  sheet_fine latin n =
      bind_fine (preface bad d latin n) _ (preface_fine latin n) λ m n.
      bind_fine (variables bad d m n) _ (variables_fine m n) λ l n.
      bind_fine (sheet_closed bad d n) _ (closing_fine n) (λ u n. tt)

-- ---- the outcome
abbrev pub OutcomeFree : XmlOutcome → Type 0
OutcomeFree (Built l) = Unit
OutcomeFree (Refusal k p) = Free k

fitting_free : (n : ℕ) (l : List XmlEntry) → OutcomeFree (xml_fitting n l)
unfolding xml_fitting
fitting_free n l = either OutcomeFree (ltb n (length (xml_table l))) refl tt

sheet_free : (latin : Bool) (d : List ℕ) (at n : ℕ) → OutcomeFree (sheet_of latin d at n)
unfolding sheet_of judge_xml_names
sheet_free latin d at n = by (sheet.sheet (ltb (first_bad latin d at) (length d)) (take (first_bad latin d at) d) latin at)
    (sheet_fine _ _ latin at) where
      by : (r : Result sheet.XmlSurvey) → Fine r → OutcomeFree (xml_settled latin (take (first_bad latin d at) d) n r)
      by (Is s m) h =
          either OutcomeFree s.manner.standard (either OutcomeFree
          (ltb (name_fault (xml_names latin (take (first_bad latin d at) d) s.entries)) (length s.entries)) refl
          (fitting_free n s.entries)) (fitting_free n s.entries)
      by (Not f) h = h

pub outcome_free : (d : List ℕ) (n : ℕ) → OutcomeFree (xml_outcome d n)
unfolding xml_outcome
outcome_free d n = either OutcomeFree (ltb 1048576 (length d)) refl (by (declaration_of d) (declaration_free d)) where
  by : (x : Prolog) → PrologFree x → OutcomeFree (declared d n x)
  by (prolog.Read latin at) h = sheet_free latin d at n
  by (prolog.Fault number p) h = h
