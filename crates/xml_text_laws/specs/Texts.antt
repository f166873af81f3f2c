-- THE TEXTS OF A SURVEY: each name, label and line of what a derivation says is a stretch that is content as of a label.
use Rattle.std.specs.Prelude.{◌≡◌, refl, Bool, false, ℕ, ◌+◌, ◌-◌, ◌<◌, ◌≤◌, length, take, drop, get_or}
use Rattle.std.proofs.Common.{sym, ap, ◌∙◌, ⊎_elim, arith, take-add, take_at, drop_at, length-take-le}
use mathlib.Core.List.Memᴰ
use mathlib.Core.List.{List, [], ◌∷◌, ◌++◌, Memᴰ}
use Rattle.signs.specs.declared.Sign.{Sign}
use Rattle.utf.specs.rule.Chars.{Chars}
use Rattle.utf.specs.rule.Chars as chars
use Rattle.attributes.proofs.Exactly.{Ended, plain, empty}
use Rattle.tags.specs.declared.Held.{Held}
use Rattle.pairs.specs.rule.Grammar.{Ends}
use Rattle.pairs.specs.rule.Grammar as pairs
use Rattle.pairs.proofs.Lies.{Lies, lies_within}
use Rattle.contents.specs.rule.Grammar as contents
use Rattle.contents.proofs.Exactly.{ContentAt, wider}
use Rattle.contents.proofs.Exactly as stretches
use Rattle.survey.specs.rule.Survey.{KeptText, Line}
use Rattle.survey.specs.rule.Table.{lines_of}
use Rattle.reading.specs.rule.Least.{Charge}
use Rattle.reading.specs.rule.Variable.{Sort, Single, Multiple, Quantity, Character, Logical}
use Rattle.elements.proofs.Bounds.{tag_within}
use Rattle.xml_reading.specs.rule.Role.{XmlEntry}
use Rattle.xml_grammar.specs.Grammar.{Element, Holds, typed, rule_of}
use Rattle.xml_grammar.specs.Grammar.{Sss, Date, Time, Origin, User, Survey, SurveyName, SurveyVersion, Title, Record}
use Rattle.xml_grammar.specs.Grammar.{Variable, Name, Label, Position, Filter, Spread, Size, Values, Range, Value}
use Rattle.xml_grammar.specs.Reader.{no_text}
use Rattle.xml_grammar.specs.Meaning.{State, says_of, content_in}
use Rattle.xml_derivations.specs.Tag.{StartTag, NothingAt, TextAt, stretch, name_of, form_of, needed_of}
use Rattle.xml_derivations.specs.Tag as tags
use Rattle.xml_derivations.specs.Derivation.{Thing, Parts, Says, closed}
use Rattle.xml_derivations.specs.Derivation as derivation
use Rattle.xml_derivation_laws.specs.Tags.{tag_by_lem, start_complete}
use Rattle.xml_derivation_laws.specs.Whole.{legal_end}
use Rattle.xml_text_laws.specs.Boundaries.{chars_split, chars_behind}

-- ---- a stretch of the file that is content as of a label
pub record Stands (latin : Bool) (d : List ℕ) (q : KeptText) : Type 0 where
  pub within : q.place + q.length ≤ length d
  pub text : stretches.TextAt latin (take (q.place + q.length) d) q.place

module _ (latin : Bool) (d : List ℕ) where
  cut_bytes : (n k : ℕ) (u : List ℕ) → Lies d n (n + k) u → n + k ≤ length d → drop n (take (n + k) d) ≡ u
  cut_bytes n k u l h =
      let p = l.place in
      ap (drop n) (take-add n k d)
      ∙ drop_at (take n d) (take k (drop n d)) n (length-take-le n d (omega arith))
      ∙ ap (take k) l.split
      ∙ take_at u (drop (n + k) d) k (omega arith)

  -- legal characters that are pieces of a text
  stands_of : (n k : ℕ) {u cs : List ℕ} {ss : List Sign} → Lies d n (n + k) u → n + k ≤ length d → Chars latin cs u
      → contents.ContentText latin 2 n u ss 0 → Stands latin d (record { place = n; length = k })
  stands_of n k {u} {cs} {ss} l h c t =
      let e = cut_bytes n k u l h in
      let f = length-take-le (n + k) d h in
      record {
        within = h;
        text = record { legal = legal_end latin (take (n + k) d) n {cs = cs} (omega arith) (rw e c); signs = ss; text = rw e t };
      }

  none_stands : (n k : ℕ) → k ≡ 0 → n ≤ length d → Stands latin d (record { place = n; length = k })
  none_stands n k e h =
      let i : n + k ≡ n = omega arith in
      stands_of n k (record { split = rw i; place = omega arith }) (omega arith) chars.none contents.end

  -- ---- where a tag ends stands >, a character of its own
  record Behind (n : ℕ) : Type 0 where
    pub mark : ℕ
    pub place : n ≡ mark + 1
    pub inside : mark < length d
    pub byte : get_or d mark 0 ≡ 62

  ended_behind : {at p n : ℕ} {em : Bool} → Ended d at em p n → Behind n
  ended_behind (plain {p} s h b) = record { mark = p; place = refl; inside = h; byte = b }
  ended_behind (empty {p} s h b c) = record { mark = p + 1; place = omega arith; inside = h; byte = c }

  module _ (x : Element) {old : Bool} {p n : ℕ} {h : Held} {em : Bool}
      (a : StartTag d old (rule_of x).attributes (rule_of x).word p h em n) where
    tag_places : (p < n) × (n ≤ length d)
    tag_places =
        let l = (rule_of x).attributes in
        let b = tag_within false d p (name_of old l 0) (name_of old l 1) (name_of old l 2) (form_of old l 0) (form_of old l 1)
        (form_of old l 2)
        (needed_of l) a.behind_name h em a.end_mark n
        (sym (tag_by_lem false d old x p a.behind_name) ∙ start_complete false d old x a) in
        let k = a.name.place in
        (omega (arith, b.0, b.1), b.2)

    tag_chars : (from : ℕ) {cs : List ℕ} → Chars latin cs (drop from d) → from ≤ p → (bs : List ℕ) × Chars latin bs (drop n d)
    tag_chars from c f =
        let b = ended_behind a.end in
        let e = b.byte in
        let i = tag_places.0 in
        let k = b.place in
        rw k (chars_behind latin d from b.mark c (omega arith) b.inside (omega arith))

  -- ---- a text
  first_byte : {w t : List ℕ} {e m : ℕ} → Ends w t → Lies d e m t → (r : List ℕ) × (drop e d ≡ 60 ∷ r)
  first_byte {m = m} (pairs.ends {v} x) l = (_, l.split)

  content_stands : {mode : ℕ} {w : List ℕ} {n e m : ℕ} {cs : List ℕ} → ContentAt latin d mode w n e m 0 → n ≤ length d
      → Chars latin cs (drop n d) → Stands latin d (stretch n e) × (n ≤ m)
  content_stands {n = n} {e = e} {m = m} c h k =
      let l = c.lies in
      let p = l.place in
      let q = c.ends.lies.place in
      let b = first_byte c.ends.ends c.ends.lies in
      let s = chars_split 60 (omega arith) k c.bytes b.0 (l.split ∙ ap (λ (t : List ℕ). c.bytes ++ t) b.1) in
      let i : n + (e - n) ≡ e = omega arith in
      let o = lies_within l h in
      (stands_of n (e - n) (rw i l) (omega arith) s.left (wider c.text), omega arith)

  text_stands : {mode : ℕ} {w : List ℕ} {em : Bool} {n m : ℕ} {t : KeptText} {cs : List ℕ} → TextAt latin d mode w em n t m → n ≤ length d
      → Chars latin cs (drop n d) → Stands latin d t × (n ≤ m)
  text_stands {n = n} tags.TextAt.alone h k = (none_stands n (n - n) (omega arith) h, omega arith)
  text_stands (tags.ended c) h k = content_stands c h k

  -- ---- what is known
  pub record EntryStands (v : XmlEntry) : Type 0 where
    pub name : Stands latin d v.variable.name
    pub label : Stands latin d v.variable.label
    pub lines : (y : Line) → Memᴰ y (lines_of v.variable) → Stands latin d y.text

  pub record Good (s : State) : Type 0 where
    pub script : s.manner.latin ≡ latin
    pub entries : (v : XmlEntry) → Memᴰ v s.entries → EntryStands v
    pub name : Stands latin d s.name
    pub label : Stands latin d s.label
    pub lines : (y : Line) → Memᴰ y s.block.lines → Stands latin d y.text

  one_more : {A : Type 0} {P : A → Type 0} (l : List A) {x : A} → ((y : A) → Memᴰ y l → P y) → P x
      → (y : A) → Memᴰ y (l ++ x ∷ []) → P y
  one_more l g o y m = ⊎_elim (g y) (λ i. let e = Memᴰ.eq_of_singleton i in rw e o) (Memᴰ.append_cases l m)

  says_good : (x : Element) (s : State) (h : Held) (t : KeptText) → Good s → Stands latin d no_text → Stands latin d t
      → Good (says_of d x s h t)
  says_good Sss s h t g e o = record {
    script = g.script;
    entries = λ v m. absurd (Memᴰ.not-nil m);
    name = e;
    label = e;
    lines = λ v m. absurd (Memᴰ.not-nil m);
  }
  says_good Date s h t g e o = g
  says_good Time s h t g e o = g
  says_good Origin s h t g e o = g
  says_good User s h t g e o = g
  says_good Survey s h t g e o = g
  says_good SurveyName s h t g e o = g
  says_good SurveyVersion s h t g e o = g
  says_good Title s h t g e o = g
  says_good Record s h t g e o = g
  says_good Variable s h t g e o = record {
    script = g.script;
    entries = g.entries;
    name = e;
    label = e;
    lines = λ v m. absurd
        (Memᴰ.not-nil m);
  }
  says_good Name s h t g e o = record { script = g.script; entries = g.entries; name = o; label = g.label; lines = g.lines }
  says_good Label s h t g e o = record { script = g.script; entries = g.entries; name = g.name; label = o; lines = g.lines }
  says_good Position s h t g e o = record { script = g.script; entries = g.entries; name = g.name; label = g.label; lines = g.lines }
  says_good Filter s h t g e o = record { script = g.script; entries = g.entries; name = g.name; label = g.label; lines = g.lines }
  says_good Spread s h t g e o = record { script = g.script; entries = g.entries; name = g.name; label = g.label; lines = g.lines }
  says_good Size s h t g e o = record { script = g.script; entries = g.entries; name = g.name; label = g.label; lines = g.lines }
  says_good Values s h t g e o = record {
    script = g.script;
    entries = g.entries;
    name = g.name;
    label = g.label;
    lines = λ v m. absurd
        (Memᴰ.not-nil m);
  }
  says_good Range s h t g e o = record {
    script = g.script;
    entries = g.entries;
    name = g.name;
    label = g.label;
    lines = λ v m. absurd
        (Memᴰ.not-nil m);
  }
  says_good Value s h t g e o = record {
    script = g.script;
    entries = g.entries;
    name = g.name;
    label = g.label;
    lines = one_more
        s.block.lines g.lines o;
  }

  -- the variable that was open
  entry_good : (s : State) → Good s → Stands latin d no_text → Good (closed (typed []) s)
  entry_good s g e =
      record {
        script = g.script;
        entries = one_more s.entries g.entries (record { name = g.name; label = g.label; lines = held s.sort });
        name = e;
        label = e;
        lines = λ v m. absurd (Memᴰ.not-nil m);
      } where
        held : (k : Sort) (y : Line)
            → Memᴰ y (lines_of (record {
              ident = s.ident;
              name = s.name;
              label = s.label;
              start = s.place.start;
              finish = s.place.finish;
              content = content_in k s;
            }))
            → Stands latin d y.text
        held Single y m = g.lines y m
        held Multiple y m = g.lines y m
        held Quantity y m = g.lines y m
        held Character y m = absurd (Memᴰ.not-nil m)
        held Logical y m = absurd (Memᴰ.not-nil m)

  closed_good : {r : Holds} {k : Sort} {l : List (_)} → Parts k r l → (s : State) → Good s → Stands latin d no_text → Good (closed r s)
  closed_good derivation.Parts.parts s g e = g
  closed_good derivation.Parts.typed s g e = entry_good s g e

  -- ---- a derivation: its texts stand, and it goes on in the file
  module _ (from : ℕ) {cs : List ℕ} (legal : Chars latin cs (drop from d)) where
    nothing_on : {w : List ℕ} {em : Bool} {n m : ℕ} → NothingAt d w em n m → n ≤ m
    nothing_on tags.NothingAt.alone = omega arith
    nothing_on (tags.pair p) = let k = p.lies.place in omega arith

    pub no_text_lem : Stands latin d no_text
    no_text_lem = none_stands 0 0 refl (omega arith)

    pub derived_good : {x : Thing} {s t : State} {n m : ℕ} {c : List Charge} → Says d x s n c t m → from ≤ n → Good s → Good t × (n ≤ m)
    derived_good {s = s} (derivation.empty {x = x} {h = h} i a b) f g =
        let p = tag_places x a in
        (says_good x s h no_text g no_text_lem no_text_lem, omega (arith, p.0, nothing_on b))
    derived_good {s = s} (derivation.text {x = x} {h = h} {t = y} i o a b) f g =
        let p = tag_places x a in
        let k = text_stands (rw g.script at b) p.1 (tag_chars x a from legal f).1 in
        (says_good x s h y g no_text_lem k.0, omega (arith, p.0, k.1))
    derived_good {s = s} (derivation.digits {x = x} {h = h} {t = y} i a b e) f g =
        let p = tag_places x a in
        let k = text_stands (rw g.script at b) p.1 (tag_chars x a from legal f).1 in
        (says_good x s h y g no_text_lem k.0, omega (arith, p.0, k.1))
    derived_good {s = s} (derivation.holding {x = x} {t = u} {h = h} i o a y) f g =
        let p = tag_places x a in
        let q = p.0 in
        let k = derived_good y (omega arith) (says_good x s h no_text g no_text_lem no_text_lem) in
        (closed_good o u k.0 no_text_lem, omega (arith, k.1))
    derived_good (derivation.end g e) f k =
        let p = g.place in
        let q = e.lies.place in
        (k, omega arith)
    derived_good (derivation.next o g y z) f k =
        let p = g.place in
        let a = derived_good y (omega arith) k in
        let i = a.1 in
        let b = derived_good z (omega arith) a.0 in
        (b.0, omega (arith, b.1))
    derived_good (derivation.pass o y) f k = derived_good y f k
