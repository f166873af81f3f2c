-- Start tags of the table: read exactly as `StartTag` has them, where no attribute stands that the element doesn't know.
use Rattle.std.proofs.Math.Path.{◌≡◌, refl, sym}
use Rattle.std.proofs.Common.{ap, ◌∙◌}
use Rattle.std.specs.Prelude.{Bool, List, [], ◌∷◌, ◌++◌, ℕ, zero, suc, ◌+◌, ◌<◌}
use Rattle.std.proofs.Math.Bool.{true, false, cond}
use native.Mathlib.Omega.{arith}
use Rattle.std.proofs.Math.Dec.{eqb}
use lib.ListN.{length}
use borrow.Author.Tests.{eq-eqb, ne_eqb, eqb-true}
use Rattle.markup.specs.rule.Bytes.{of_kind, is_name, starts_name, is_digit}
use Rattle.markup.specs.rule.Grammar.{Each, no_more, each}
use Rattle.markup.proofs.Runs.{first_at}
use Rattle.markup.proofs.Stretches.{Stretch}
use Rattle.attributes.proofs.Exactly.{Attributed, Ended, plain, empty, shut_exactly, white_no_name}
use Rattle.tags.specs.declared.Held.{Held}
use Rattle.tags.specs.declared.Tag.TheVariants.{Read, Fault}
use Rattle.tags.specs.declared.Turn.TheVariants.{More, Over}
use Rattle.tags.specs.rule.Tag.{slot_of, stretch_fits, placed_of, put_of, tag_of}
use Rattle.tags.specs.rule.Tag as tag
use Rattle.tags.proofs.Exactly.{puts, Placed, none, one, tag_exactly}
use Rattle.pairs.proofs.Lies.{Lies, lies_byte, lies_join, stretch_lies}
use Rattle.pairs.proofs.Ends.{Edge, edge}
use Rattle.bridge.specs.Lowest.{never}
use Rattle.xml_grammar.specs.Grammar.{Element, Sss, Date, Time, Origin, User, Survey, SurveyName, SurveyVersion, Title, Record}
use Rattle.xml_grammar.specs.Grammar.{Variable, Name, Label, Position, Filter, Spread, Size, Values, Range, Value, Attribute, rule_of}
use Rattle.xml_grammar.specs.Reader.{tag_by}
use Rattle.xml_derivations.specs.Tag.{name_of, form_of, needed_of, Gives, first, second, third, Attributes, StartTag}
use Rattle.xml_derivations.specs.Tag as tags

module _ (bad : Bool) (d : List ℕ) where
  -- the reader of the table asks for these names and forms
  pub tag_by_lem : (old : Bool) (x : Element) (p e : ℕ)
      → tag_by bad d old (rule_of x).attributes p e
      ≡ tag_of bad d p e (name_of old (rule_of x).attributes 0) (name_of old (rule_of x).attributes 1)
      (name_of old (rule_of x).attributes 2)
      (form_of old (rule_of x).attributes 0) (form_of old (rule_of x).attributes 1) (form_of old (rule_of x).attributes 2)
      (needed_of (rule_of x).attributes)
  tag_by_lem old Sss p e = refl
  tag_by_lem old Date p e = refl
  tag_by_lem old Time p e = refl
  tag_by_lem old Origin p e = refl
  tag_by_lem old User p e = refl
  tag_by_lem old Survey p e = refl
  tag_by_lem old SurveyName p e = refl
  tag_by_lem old SurveyVersion p e = refl
  tag_by_lem old Title p e = refl
  tag_by_lem old Record p e = refl
  tag_by_lem old Variable p e = refl
  tag_by_lem old Name p e = refl
  tag_by_lem old Label p e = refl
  tag_by_lem old Position p e = refl
  tag_by_lem old Filter p e = refl
  tag_by_lem old Spread p e = refl
  tag_by_lem old Size p e = refl
  tag_by_lem old Values p e = refl
  tag_by_lem old Range p e = refl
  tag_by_lem old Value p e = refl

module _ (d : List ℕ) (old : Bool) (l : List Attribute) where
  abbrev x : List ℕ
  x = name_of old l 0

  abbrev y : List ℕ
  y = name_of old l 1

  abbrev z : List ℕ
  z = name_of old l 2

  abbrev f : ℕ
  f = form_of old l 0

  abbrev g : ℕ
  g = form_of old l 1

  abbrev k : ℕ
  k = form_of old l 2

  -- ---- an attribute that was put to its place
  record Placing (before : ℕ) (good : Bool) (h i : Held) : Type 0 where
    pub fresh : before ≡ 0
    pub fits : good ≡ true
    pub same : h ≡ i

  placing : (before : ℕ) (good : Bool) (name v : ℕ) (h i : Held) → placed_of before good name v h ≡ More i → Placing before good h i
  placing before good name v h i e = by (eqb before 0) good refl e where
    by : (a b : Bool) → eqb before 0 ≡ a → cond a (cond b (More h) (Over (Fault 2 v))) (Over (Fault 50 name)) ≡ More i
        → Placing before b h i
    by true true j e = record { fresh = eqb-true before 0 j; fits = refl; same = cc }
    by true false j e = never cc
    by false b j e = never cc

  -- one that isn't known is held
  gives_of : {h i : Held} {n e v w m : ℕ} → Attributed d h.next n e v w m → puts d x y z f g k h n e v w m ≡ More i → i.unknown ≡ 0
      → Gives d old l h i
  unfolding put_of tag.form_of
  gives_of {h} {i} {n} {e} {v} {w} {m} a q u = by (slot_of d n e x y z) refl q where
    unknown : (b : Bool) → eqb h.unknown 0 ≡ b → cond b n h.unknown ≡ 0 → ⊥
    unknown true j r = let t = a.spaced in omega arith
    unknown false j r = let t = eq-eqb h.unknown 0 r in let s : ◌≡◌ {A = Bool} true false = sym t ∙ j in never cc

    same : {r : Held} → More r ≡ More i → r ≡ i
    same q = cc

    by : (s : ℕ) → slot_of d n e x y z ≡ s → put_of h s n m (stretch_fits (tag.form_of s f g k) d v w) v w ≡ More i → Gives d old l h i
    by zero j q =
        absurd (unknown (eqb h.unknown 0) refl (ap (λ (x : Held). x.unknown) (same q) ∙ u))
    by (suc zero) j q =
        let r = placing h.a (stretch_fits f d v w) n v _ i q in
        rw (← r.same) (first a j r.fresh r.fits)
    by (suc (suc zero)) j q =
        let r = placing h.b (stretch_fits g d v w) n v _ i q in
        rw (← r.same) (second a j r.fresh r.fits)
    by (suc (suc (suc zero))) j q =
        let r = placing h.c (stretch_fits k d v w) n v _ i q in
        rw (← r.same) (third a j r.fresh r.fits)
    by (suc (suc (suc (suc s)))) j q =
        let t = suc (suc (suc (suc s))) in
        let r = rw (ne_eqb t 1 (λ e. omega arith), ne_eqb t 2 (λ e. omega arith), ne_eqb t 3 (λ e. omega arith)) at q in
        absurd (unknown (eqb h.unknown 0) refl (ap (λ (x : Held). x.unknown) (same r) ∙ u))

  gives_unknown : {h i : Held} → Gives d old l h i → h.unknown ≡ i.unknown
  gives_unknown (first a j r s) = refl
  gives_unknown (second a j r s) = refl
  gives_unknown (third a j r s) = refl

  placed_gives : {h j : Held} → Placed d x y z f g k h j → j.unknown ≡ 0 → (h.unknown ≡ 0) × Attributes d old l h j
  placed_gives none u = (u, tags.no_more)
  placed_gives (one a q r) u =
      let t = placed_gives r u in
      let b = gives_of a q t.0 in
      (gives_unknown b ∙ t.0, tags.more b t.1)

  -- ---- and back
  gives_placed : {h i j : Held} → Gives d old l h i → Placed d x y z f g k i j → Placed d x y z f g k h j
  unfolding put_of tag.form_of
  gives_placed {h} {i} (first a j r s) p = one {h = h} {i = i} a (rw (j, r, s)) p
  gives_placed {h} {i} (second a j r s) p = one {h = h} {i = i} a (rw (j, r, s)) p
  gives_placed {h} {i} (third a j r s) p = one {h = h} {i = i} a (rw (j, r, s)) p

  gives_all : {h j : Held} → Attributes d old l h j → Placed d x y z f g k h j
  gives_all tags.no_more = none
  gives_all (tags.more b r) = gives_placed b (gives_all r)

  -- ---- behind the name of a tag no name goes on
  white_edge : (b : ℕ) → of_kind 0 b ≡ true → of_kind 1 b ≡ false
  unfolding of_kind
  white_edge b e = white_no_name b e

  stretch_edge : {at n : ℕ} → Stretch (of_kind 0) d at n → at < n → Edge d at
  stretch_edge {at} {n} s h = by s.passes s.split s.place where
    by : {u : List ℕ} → Each (of_kind 0) u → lib.ListN.drop at d ≡ u ++ lib.ListN.drop n d → n ≡ at + length u → Edge d at
    by no_more q r = absurd (omega arith)
    by (each {b} {s = t} w r) q o =
        let i = first_at d at b (t ++ lib.ListN.drop n d) q in
        record { inside = i.0; over = rw i.1 (white_edge b w) }

  more_no_name : of_kind 1 62 ≡ false
  unfolding of_kind is_name starts_name is_digit
  more_no_name = refl

  slash_no_name : of_kind 1 47 ≡ false
  unfolding of_kind is_name starts_name is_digit
  slash_no_name = refl

  ended_edge : {at p n : ℕ} {em : Bool} → Ended d at em p n → Edge d at
  ended_edge (plain {p} s h b) = edge 62 [] s.passes more_no_name (lies_join (stretch_lies s) (lies_byte d p (p + 1) 62 h b refl))
  ended_edge (empty {p} s h b c) =
      edge 47 [] s.passes slash_no_name (lies_join (stretch_lies s) (lies_byte d p (p + 1) 47 (omega arith) b refl))

  gives_edge : {h i : Held} → Gives d old l h i → Edge d h.next
  gives_edge (first a j r s) = stretch_edge a.before a.spaced
  gives_edge (second a j r s) = stretch_edge a.before a.spaced
  gives_edge (third a j r s) = stretch_edge a.before a.spaced

  tag_edge : {h j : Held} {p n : ℕ} {em : Bool} → Attributes d old l h j → Ended d j.next em p n → Edge d h.next
  tag_edge tags.no_more e = ended_edge e
  tag_edge (tags.more b r) e = gives_edge b

-- ---- the tag
module _ (bad : Bool) (d : List ℕ) (old : Bool) (x : Element) where
  pub start_sound : {p e q n : ℕ} {h : Held} {em : Bool} → Lies d p e (60 ∷ (rule_of x).word)
      → tag_by bad d old (rule_of x).attributes p e ≡ Read h em q n → h.unknown ≡ 0
      → StartTag d old (rule_of x).attributes (rule_of x).word p h em n
  start_sound {p} {e} {q} {n} {h} {em} l r u =
      let a = (rule_of x).attributes in
      let t = (tag_exactly bad d p e (name_of old a 0) (name_of old a 1) (name_of old a 2) (form_of old a 0) (form_of old a 1)
      (form_of old a 2)
      (needed_of a) h em q n).0 (sym (tag_by_lem bad d old x p e) ∙ r) in
      record {
        behind_name = e;
        end_mark = q;
        name = l;
        attributes = (placed_gives d old a t.placed u).1;
        complete = t.whole;
        end = (shut_exactly bad d p h.next).0 t.shut;
      }

  pub start_complete : {p n : ℕ} {h : Held} {em : Bool} (t : StartTag d old (rule_of x).attributes (rule_of x).word p h em n)
      → tag_by bad d old (rule_of x).attributes p t.behind_name ≡ Read h em t.end_mark n
  start_complete {p} {n} {h} {em} t =
      let a = (rule_of x).attributes in
      tag_by_lem bad d old x p t.behind_name
      ∙ (tag_exactly bad d p t.behind_name (name_of old a 0) (name_of old a 1) (name_of old a 2) (form_of old a 0) (form_of old a 1)
      (form_of old a 2) (needed_of a) h em t.end_mark n).1
      (record {
        placed = gives_all d old a t.attributes;
        shut = (shut_exactly bad d p h.next).1 t.end;
        whole = t.complete;
      })

  -- no attribute that isn't known was held
  kept : {a : List Attribute} {h j : Held} → Attributes d old a h j → h.unknown ≡ j.unknown
  kept tags.no_more = refl
  kept {a} (tags.more b r) = gives_unknown d old a b ∙ kept r

  pub start_known : {p n : ℕ} {h : Held} {em : Bool} → StartTag d old (rule_of x).attributes (rule_of x).word p h em n → h.unknown ≡ 0
  start_known t = sym (kept t.attributes)

  pub start_edge : {p n : ℕ} {h : Held} {em : Bool} (t : StartTag d old (rule_of x).attributes (rule_of x).word p h em n)
      → Edge d t.behind_name
  start_edge t = tag_edge d old (rule_of x).attributes t.attributes t.end
