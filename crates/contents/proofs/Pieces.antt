-- What the grammar has, a step passes.
use mathlib.Core.Path.{◌≡◌, refl, ap, ◌∙◌}
use mathlib.Core.Bool.{Bool, true, false, cond, ◌&&◌, not}
use mathlib.Core.List.{List, [], ◌∷◌, ◌++◌}
use Prim.Native.Nat.{ℕ, suc, ◌+◌, ◌-◌, ◌<◌}
use native.Mathlib.Omega.{arith}
use lib.Dec.{leb, eqb}
use lib.ListN.{length, drop, get_or}
use borrow.Author.Tests.{ne_eqb, eqb-true, lt-leb}
use Rattle.std.proofs.Common.{Some}
use Rattle.signs.specs.declared.Sign.{Sign}
use Rattle.signs.specs.declared.Sign.TheVariants as sign
use Rattle.utf.specs.rule.Chars.{encode}
use Rattle.utf.proofs.Strides.{drop_1}
use Rattle.markup.specs.rule.Bytes.{of_kind, is_name, is_digit, starts_name, stands}
use Rattle.markup.specs.rule.Reference.{reference_of}
use Rattle.markup.specs.rule.Gap.{xml_comment}
use Rattle.markup.specs.rule.Grammar.{no_more, each, Note}
use Rattle.markup.specs.declared.Skip.TheVariants as skip
use Rattle.markup.proofs.References.{reference_complete}
use Rattle.markup.proofs.Gaps.{comment_complete}
use Rattle.angles.specs.rule.Angle.{angle_of}
use Rattle.angles.specs.declared.Angle.TheVariants as angle
use Rattle.tags.specs.rule.Tag.{is_named}
use Rattle.pairs.specs.rule.Pair.{pair_of}
use Rattle.pairs.specs.rule.Grammar.{Name, name, Behind, first_of}
use Rattle.pairs.specs.declared.Pair.TheVariants as pairs
use Rattle.pairs.proofs.Lies.{Lies, lies_cut, lies_first, lies_named}
use Rattle.pairs.proofs.Given.{first_none}
use Rattle.pairs.proofs.Tags.{TagRead, tag_complete}
use Rattle.pairs.proofs.Ends.{behind_edge, start_complete, pair_exactly}
use Rattle.contents.specs.rule.Grammar.{br, text, lang, byte_signs, byte_of, ContentPiece, plain, line, return, refer, note, alone}
use Rattle.contents.specs.rule.Grammar.{pair, unsaid}
use Rattle.contents.specs.rule.Step.{heard_of, go_on_saying, bracket_at, return_at, refer_at, note_at, pair_at, break_at, language_at}
use Rattle.contents.specs.rule.Step.{mode_in}
use Rattle.contents.specs.rule.Step.{step_kind}
use Rattle.contents.specs.rule.Step.{start_at, mark_at, step_of}
use Rattle.contents.specs.rule.Content.{signs_of}
use Rattle.contents.specs.declared.Going.{Going}
use Rattle.contents.specs.declared.Said.{Said}
use Rattle.contents.specs.declared.Said.TheVariants as said
use Rattle.contents.specs.declared.Step.TheVariants.{More}
use Rattle.contents.proofs.Views.{Stop, line_same, bracket_same, byte_ten}

-- ---- the names
pub br_name : Name br
unfolding starts_name of_kind is_name is_digit
br_name = name refl (each refl no_more)

pub text_name : Name text
unfolding starts_name of_kind is_name is_digit
text_name = name refl (each refl (each refl (each refl no_more)))

-- a state
abbrev pub stand : Bool → ℕ → ℕ → Going
stand i u p = record { inside = i; unknown = u; next = p }

module _ (l bad : Bool) (d : List ℕ) (m : ℕ) (w : List ℕ) where
  -- a step from g to h that says x
  pub record StepTo (g h : Going) (x : List Sign) : Type 0 where
    pub said : Said
    pub steps : step_of bad d m w g ≡ More h said
    pub signs : signs_of l said ≡ x

  heard_signs : (i : Bool) (s : Said) (x : List Sign) → signs_of l s ≡ x → signs_of l (heard_of i s) ≡ cond i [] x
  unfolding signs_of
  heard_signs true s x e = refl
  heard_signs false s x e = e

  -- on without an attribute that isn't known
  go_to : (i : Bool) (u p n : ℕ) (s : Said) (x : List Sign) → step_of bad d m w (stand i u p) ≡ go_on_saying (stand i u p) n s
      → signs_of l s
      ≡ x
      → StepTo (stand i u p) (stand i (first_of u 0) n) (cond i [] x)
  go_to i u p n s x e f =
      let k : u ≡ first_of u 0 = first_none u in
      record { said = heard_of i s; steps = e ∙ ap (λ (t : ℕ). More (stand i t n) (heard_of i s)) k; signs = heard_signs i s x f }

  -- ---- bytes and references
  step_93 : (g : Going) → g.next < length d → get_or d g.next 0 ≡ 93 → stands (93 ∷ 93 ∷ 62 ∷ []) (drop g.next d) ≡ false
      → step_of bad d m w g ≡ go_on_saying g (g.next + 1) (said.Byte 93)
  unfolding step_of bracket_at
  step_93 g h f e = rw (lt-leb (length d) g.next h, f, e)

  pub step_byte : (g : Going) (b : ℕ) → g.next < length d → get_or d g.next 0 ≡ b → (b ≡ 38 → ⊥) → (b ≡ 60 → ⊥) → (b ≡ 13 → ⊥) → eqb b 93
      ≡ false → step_of bad d m w g ≡ go_on_saying g (g.next + 1) (said.Byte b)
  unfolding step_of
  step_byte g b h f x y z e = rw (lt-leb (length d) g.next h, f, ne_eqb b 60 y, ne_eqb b 38 x, e, ne_eqb b 13 z)

  step_plain : (g : Going) (b : ℕ) (s r : List ℕ) → g.next < length d → get_or d g.next 0 ≡ b → (b ≡ 38 → ⊥) → (b ≡ 60 → ⊥) → (b ≡ 13 → ⊥)
      → stands (93 ∷ 93 ∷ 62 ∷ []) (b ∷ s) ≡ false
      → drop (g.next + 1) d ≡ s ++ r → Stop r → step_of bad d m w g ≡ go_on_saying g (g.next + 1) (said.Byte b)
  step_plain g b s r h f x y z e k o = by (eqb b 93) refl where
    none : stands (93 ∷ 93 ∷ 62 ∷ []) (drop g.next d) ≡ false
    none = ap (stands (93 ∷ 93 ∷ 62 ∷ [])) (drop_1 d g.next h ∙ rw (f, k)) ∙ bracket_same b s o ∙ e

    by : (q : Bool) → eqb b 93 ≡ q → step_of bad d m w g ≡ go_on_saying g (g.next + 1) (said.Byte b)
    by true i = let c = eqb-true b 93 i in step_93 g h (f ∙ c) none ∙ rw c
    by false i = step_byte g b h f x y z i

  pub step_return : (g : Going) (q : Bool) → g.next < length d → get_or d g.next 0 ≡ 13 → stands (10 ∷ []) (drop (g.next + 1) d) ≡ q
      → step_of bad d m w g ≡ go_on_saying g (g.next + 1) (cond q said.Nothing (said.Byte 10))
  unfolding step_of return_at
  step_return g q h f e = rw (lt-leb (length d) g.next h, f, e)

  pub step_refer : (g : Going) (c n : ℕ) → g.next < length d → get_or d g.next 0 ≡ 38 → reference_of g.next (drop (g.next + 1) d)
      ≡ Some (c, n) → step_of bad d m w g ≡ go_on_saying g n (said.Code c)
  unfolding step_of refer_at
  step_refer g c n h f e = rw (lt-leb (length d) g.next h, f, e)

  pub step_note : (g : Going) (n : ℕ) → g.next < length d → get_or d g.next 0 ≡ 60 → stands (60 ∷ 33 ∷ 45 ∷ 45 ∷ []) (drop g.next d)
      ≡ true
      → xml_comment bad g.next (g.next + 4) (drop (g.next + 4) d) ≡ skip.Past n → step_of bad d m w g ≡ go_on_saying g n said.Nothing
  unfolding step_of mark_at note_at
  step_note g n h f x e = rw (lt-leb (length d) g.next h, f, x, e)

  -- ---- tags
  step_start : (g : Going) (e : ℕ) → g.next < length d → get_or d g.next 0 ≡ 60 → stands (60 ∷ 33 ∷ 45 ∷ 45 ∷ []) (drop g.next d)
      ≡ false → angle_of bad d g.next ≡ angle.Start e
      → step_of bad d m w g ≡ start_at bad d m g e
  unfolding step_of mark_at
  step_start g e h f x a = rw (lt-leb (length d) g.next h, f, x, a)

  start_break : (g : Going) (e : ℕ) → leb 1 (mode_in m g.inside) ≡ true → is_named d (g.next + 1) e br ≡ true → start_at bad d m g e
      ≡ break_at bad d g e
  unfolding start_at step_kind
  start_break g e h f = rw (h, f)

  start_language : (g : Going) (e : ℕ) → eqb (mode_in m g.inside) 2 ≡ true → is_named d (g.next + 1) e br ≡ false
      → is_named d (g.next + 1) e text ≡ true → start_at bad d m g e ≡ language_at bad d g e
  unfolding start_at step_kind
  start_language g e h f x = rw (f, no_and (leb 1 (mode_in m g.inside)), h, x) where
    no_and : (b : Bool) → (b && false) ≡ false
    no_and true = refl
    no_and false = refl

  not_br : (n e : ℕ) → Lies d n e text → is_named d n e br ≡ false
  unfolding is_named
  not_br n e li = let k = li.place in rw (ne_eqb (e - n) 2 (λ x. omega arith))

  pub no_note : (p q b : ℕ) (t : List ℕ) → (b ≡ 33 → ⊥) → Lies d p q (60 ∷ b ∷ t) → stands (60 ∷ 33 ∷ 45 ∷ 45 ∷ []) (drop p d) ≡ false
  unfolding stands
  no_note p q b t x li = rw (li.split, ne_eqb b 33 x)

  step_alone : (g : Going) (e n a : ℕ) → TagRead bad [] d g.next e n true 0 a → break_at bad d g e
      ≡ More (stand g.inside (first_of g.unknown a) n) (heard_of g.inside said.Break)
  unfolding break_at
  step_alone g e n a t = let u = t.unknown in rw (t.reads, u)

  step_pair : (g : Going) (e n k a : ℕ) → TagRead bad [] d g.next e n false 0 a → pair_of bad d n br ≡ pairs.Past k → break_at bad d g e
      ≡ More (stand g.inside (first_of g.unknown a) k) (heard_of g.inside said.Break)
  unfolding break_at pair_at
  step_pair g e n k a t f = let u = t.unknown in rw (t.reads, f, u)

  pub step_language : (g : Going) (e n a : ℕ) (em : Bool) → TagRead bad lang d g.next e n em 1 a → language_at bad d g e
      ≡ More (stand (not em) (first_of g.unknown a) n) said.Nothing
  unfolding language_at
  step_language g e n a em t = let u = t.unknown in rw (t.reads, u)

  -- the start tag of br, up to its attributes
  br_start : (g : Going) {em x : Bool} {q a : ℕ} {t : List ℕ} → leb 1 (mode_in m g.inside) ≡ true → Behind [] em (g.next + 3) t x a
      → Lies d g.next (g.next + 3) (60 ∷ br) → Lies d (g.next + 3) q t
      → step_of bad d m w g ≡ break_at bad d g (g.next + 3)
  br_start g {q = q} h b li lt =
      let f = lies_first li in
      step_start g (g.next + 3) f.inside f.byte (no_note g.next (g.next + 3) 98 (114 ∷ []) (λ x. omega arith) li)
      (start_complete bad d g.next br_name li (behind_edge b lt))
      ∙ start_break g (g.next + 3) h (lies_named f.rest)

  pub text_start : (g : Going) {em x : Bool} {q a : ℕ} {t : List ℕ} → eqb (mode_in m g.inside) 2 ≡ true
      → Behind lang em (g.next + 5) t x a → Lies d g.next (g.next + 5) (60 ∷ text) → Lies d (g.next + 5) q t
      → step_of bad d m w g ≡ language_at bad d g (g.next + 5)
  text_start g {q = q} h b li lt =
      let f = lies_first li in
      step_start g (g.next + 5) f.inside f.byte (no_note g.next (g.next + 5) 116 (101 ∷ 120 ∷ 116 ∷ []) (λ x. omega arith) li)
      (start_complete bad d g.next text_name li (behind_edge b lt))
      ∙ start_language g (g.next + 5) h (not_br (g.next + 1) (g.next + 5) f.rest) (lies_named f.rest)

  pub never : {A : Type 0} → false ≡ true → A
  never e = let z : ◌≡◌ {A = ℕ} 0 1 = cc in absurd (omega arith)

  outside : (i : Bool) → eqb (mode_in m i) 2 ≡ true → i ≡ false
  outside true e = never e
  outside false e = refl

  stands_note : (t : List ℕ) → stands (60 ∷ 33 ∷ 45 ∷ 45 ∷ []) (60 ∷ 33 ∷ 45 ∷ 45 ∷ t) ≡ true
  unfolding stands
  stands_note t = refl

  -- ---- a piece
  place_to : {g : Going} {x : List Sign} (i : Bool) (u n k : ℕ) → n ≡ k → StepTo g (stand i u n) x → StepTo g (stand i u k) x
  place_to i u n k e s = rw (← e) s

  note_step_lem : (i : Bool) (u p : ℕ) (n : List ℕ) → Note n → Lies d p (p + length (60 ∷ 33 ∷ 45 ∷ 45 ∷ n)) (60 ∷ 33 ∷ 45 ∷ 45 ∷ n)
      → StepTo (stand i u p) (stand i (first_of u 0) (p + length (60 ∷ 33 ∷ 45 ∷ 45 ∷ n))) (cond i [] [])
  unfolding signs_of
  note_step_lem i u p n nt li =
      let q = p + length (60 ∷ 33 ∷ 45 ∷ 45 ∷ n) in
      let y = lies_first li in
      let c = lies_cut d p q (60 ∷ 33 ∷ 45 ∷ 45 ∷ []) n li in
      let z = c.1.split in
      let x = li.split in
      let e : p + 4 + length n ≡ q = omega arith in
      place_to i (first_of u 0) (p + 4 + length n) q e
      (go_to i u p (p + 4 + length n) said.Nothing []
      (step_note (stand i u p) (p + 4 + length n) y.inside y.byte
      (ap (stands (60 ∷ 33 ∷ 45 ∷ 45 ∷ [])) x ∙ stands_note (n ++ drop q d))
      (ap (xml_comment bad p (p + 4)) z ∙ comment_complete bad p (p + 4) nt (drop q d))) refl)

  pub piece_step : (i : Bool) (u p k : ℕ) {b s : List ℕ} {x : List Sign} {a : ℕ} → mode_in m i ≡ k → ContentPiece l k p b s x a
      → (r : List ℕ)
      → Lies d p (p + length b) b → drop (p + length b) d ≡ s ++ r → Stop r
      → StepTo (stand i u p) (stand i (first_of u a) (p + length b)) (cond i [] x)
  unfolding signs_of
  piece_step i u p k {s = s} md (plain {b} h1 h2 h3 e) r li f o =
      let y = lies_first li in
      go_to i u p (p + 1) (said.Byte b) (byte_of l b) (step_plain (stand i u p) b s r y.inside y.byte h1 h2 h3 e f o) refl
  piece_step i u p k {s = s} md (line e) r li f o =
      let y = lies_first li in
      go_to i u p (p + 1) said.Nothing [] (step_return (stand i u p) true y.inside y.byte
      (ap (stands (10 ∷ [])) f ∙ line_same s o ∙ e)) refl
  piece_step i u p k {s = s} md (return e) r li f o =
      let y = lies_first li in
      go_to i u p (p + 1) (said.Byte 10) (sign.Byte 10 ∷ [])
      (step_return (stand i u p) false y.inside y.byte (ap (stands (10 ∷ [])) f ∙ line_same s o ∙ e)) (byte_ten l)
  piece_step i u p k {s = s} md (refer {c} {r = q} ref) r li f o =
      let y = lies_first li in
      let z = y.rest.split in
      let e : p + 1 + length q ≡ p + suc (length q) = omega arith in
      place_to i (first_of u 0) (p + 1 + length q) (p + suc (length q)) e
      (go_to i u p (p + 1 + length q) (said.Code c) (byte_signs (encode c))
      (step_refer (stand i u p) c (p + 1 + length q) y.inside y.byte (ap (reference_of p) z ∙ reference_complete p ref _)) refl)
  piece_step i u p k {s = s} md (note {n} nt) r li f o = note_step_lem i u p n nt li
  piece_step i u p k {s = s} {a = a} md (alone {t = t} h b) r li f o =
      let c = lies_cut d p (p + length (60 ∷ (br ++ t))) (60 ∷ br) t li in
      let h' : leb 1 (mode_in m i) ≡ true = rw md h in
      let tr = tag_complete bad [] d p (p + 3) 0 true (omega arith) b (λ z. never z) (p + length (60 ∷ (br ++ t))) c.1 in
      record {
        said = heard_of i said.Break;
        steps = br_start (stand i u p) h' b c.0 c.1 ∙ step_alone (stand i u p) (p + 3) (p + length (60 ∷ (br ++ t))) a tr;
        signs = heard_signs i said.Break (sign.Break ∷ []) refl;
      }
  piece_step i u p k {s = s} {a = a} md (pair {t = t} {e} h b em) r li f o =
      let q = p + length (60 ∷ (br ++ (t ++ e))) in
      let c = lies_cut d p q (60 ∷ br) (t ++ e) li in
      let c2 = lies_cut d (p + 3) q t e c.1 in
      let h' : leb 1 (mode_in m i) ≡ true = rw md h in
      let tr = tag_complete bad [] d p (p + 3) 0 false (omega arith) b (λ z. never z) (p + 3 + length t) c2.0 in
      let pr = (pair_exactly bad d br (p + 3 + length t) q br_name).1 (record { bytes = e; empties = em; lies = c2.1 }) in
      record {
        said = heard_of i said.Break;
        steps = br_start (stand i u p) h' b c.0 c2.0 ∙ step_pair (stand i u p) (p + 3) (p + 3 + length t) q a tr pr;
        signs = heard_signs i said.Break (sign.Break ∷ []) refl;
      }
  piece_step i u p k {s = s} {a = a} md (unsaid {t = t} h b) r li f o =
      let q = p + length (60 ∷ (text ++ t)) in
      let c = lies_cut d p q (60 ∷ text) t li in
      let h' : eqb (mode_in m i) 2 ≡ true = rw md h in
      let out : i ≡ false = outside i h' in
      let tr = tag_complete bad lang d p (p + 5) 1 true (omega arith) b (λ z. refl) q c.1 in
      let st : step_of bad d m w (stand i u p) ≡ More (stand false (first_of u a) q) said.Nothing = text_start (stand i u p) h' b c.0
      c.1 ∙ step_language (stand i u p) (p + 5) q a true tr in
      rw out (record { said = said.Nothing; steps = rw out at st; signs = refl })
