-- A text, in XML's words: what is read, what it says, and which stretches are one.
use mathlib.Core.Path.{◌≡◌, refl, sym, ap, ◌∙◌}
use mathlib.Core.Logic.{◌↔◌}
use mathlib.Core.Bool.{Bool, true, false, cond, ◌&&◌, not}
use mathlib.Core.List.{List, [], ◌∷◌, ◌++◌, append_assoc, append-nil}
use Prim.Native.Nat.{ℕ, zero, suc, ◌+◌, ◌-◌, ◌≤◌, ◌<◌}
use native.Mathlib.Omega.{arith}
use lib.Dec.{leb, eqb}
use lib.ListN.{length, take, drop, length-drop, drop_of_length-le}
use lib.Seq.{take-nil, drop-nil, drop-length, take_at, length-take-le}
use borrow.Author.Tests.{eq-eqb, eqb-true, lt-leb, le-leb, leb-true, leb-false}
use Rattle.below.specs.Below.{and_left, and_right}
use Rattle.signs.specs.declared.Sign.{Sign}
use Rattle.utf.specs.rule.Cut.{first_bad}
use Rattle.markup.specs.rule.Bytes.{stands}
use Rattle.pairs.specs.rule.Grammar.{Name, Ends, ends, Behind, first_of}
use Rattle.pairs.proofs.Lies.{Lies, lies_none, lies_cut, lies_within}
use Rattle.pairs.proofs.Given.{first_none, first_join}
use Rattle.pairs.proofs.Tags.{tag_complete}
use Rattle.pairs.proofs.Ends.{EndAt, ends_complete}
use Rattle.contents.specs.rule.Grammar.{text, lang, ContentPiece, plain, line, return, refer, note, alone, pair, unsaid}
use Rattle.contents.specs.rule.Grammar.{ContentText, end, more}
use Rattle.contents.specs.rule.Grammar.{language}
use Rattle.contents.specs.rule.Step.{mode_in, close_at, mark_at, step_of}
use Rattle.contents.specs.rule.Content.{begun, content_of, signs_of, signs_from, text_from, is_text}
use Rattle.contents.specs.declared.Going.{Going}
use Rattle.contents.specs.declared.Said.{Said}
use Rattle.contents.specs.declared.Said.TheVariants as said
use Rattle.contents.specs.declared.Content.TheVariants.{Read, Fault}
use Rattle.contents.specs.declared.Step.{Step}
use Rattle.contents.specs.declared.Step.TheVariants.{More, Over}
use Rattle.contents.proofs.Views.{Stop, nothing, mark, Ended, View, read, step_view}
use Rattle.contents.proofs.Goes.{Goes, stay, on, Rest, outer, Owed, goes_back, Reached, content_reached, goes_content}
use Rattle.contents.proofs.Goes.{content_over, step_on, signs_next, signs_over, text_next, text_over, text_end}
use Rattle.contents.proofs.Pieces.{text_name, stand, StepTo, piece_step, text_start, step_language, no_note, never}

-- ---- steps joined
ends_stop : {w t : List ℕ} (u : List ℕ) → Ends w t → Stop (t ++ u)
ends_stop u (ends x) = mark

module _ (l bad : Bool) (d : List ℕ) (m : ℕ) (w : List ℕ) where
  goes_join : {g h k : Going} {xs ys : List Sign} → Goes l bad d m w g h xs → Goes l bad d m w h k ys → Goes l bad d m w g k (xs ++ ys)
  goes_join stay y = y
  goes_join {ys = ys} (on {s = s} {cs = xs} e r) y = rw (append_assoc (signs_of l s) xs ys) (on e (goes_join r y))

  goes_to : {g : Going} {cs cs' : List Sign} (i : Bool) (u u' n n' : ℕ) → u ≡ u' → n ≡ n' → cs ≡ cs' → Goes l bad d m w g (stand i u n) cs
      → Goes l bad d m w g (stand i u' n') cs'
  goes_to i u u' n n' e f h x = rw (← e, ← f, ← h) x

  step_goes : {g h k : Going} {x ys : List Sign} → StepTo l bad d m w g h x → Goes l bad d m w h k ys → Goes l bad d m w g k (x ++ ys)
  step_goes {ys = ys} s r = let e = s.signs in rw (← e) (on s.steps r)

  silent_nil : (i : Bool) → ◌≡◌ {A = List Sign} [] (cond i [] [])
  silent_nil true = refl
  silent_nil false = refl

  heard_join : (i : Bool) (x y : List Sign) → cond i [] x ++ cond i [] y ≡ cond i [] (x ++ y)
  heard_join true x y = refl
  heard_join false x y = refl

  -- ---- end tags
  ends_note : {v t : List ℕ} (p n : ℕ) → Ends v t → Lies d p n t → stands (60 ∷ 33 ∷ 45 ∷ 45 ∷ []) (drop p d) ≡ false
  ends_note {v} p n (ends {v = x} y) li = no_note l bad d m w p n 47 (v ++ (x ++ 62 ∷ [])) (λ z. omega arith) li

  step_leave : {t : List ℕ} (u p n : ℕ) → Ends text t → Lies d p n t → step_of bad d m w (stand true u p)
      ≡ More (stand false u n) said.Nothing
  unfolding step_of mark_at close_at
  step_leave u p n e li =
      let c = ends_complete bad d p n text_name e li in
      rw (lt-leb (length d) p c.inside, c.less, ends_note p n e li, c.opens, c.shuts)

  step_end : {t : List ℕ} (u p n : ℕ) → Name w → Ends w t → Lies d p n t → step_of bad d m w (stand false u p) ≡ Over (Read p n u)
  unfolding step_of mark_at close_at
  step_end u p n na e li =
      let c = ends_complete bad d p n na e li in
      rw (lt-leb (length d) p c.inside, c.less, ends_note p n e li, c.opens, c.shuts)

  -- ---- a text is passed
  step_enter : (u p n a : ℕ) {t : List ℕ} → eqb m 2 ≡ true → Behind lang false (p + 5) t true a → Lies d p (p + 5) (60 ∷ text)
      → Lies d (p + 5) n t
      → step_of bad d m w (stand false u p) ≡ More (stand true (first_of u a) n) said.Nothing
  step_enter u p n a h b li lt =
      text_start l bad d m w (stand false u p) h b li lt
      ∙ step_language l bad d m w (stand false u p) (p + 5) n a false
      (tag_complete bad lang d p (p + 5) 1 false (omega arith) b (λ z. refl) n lt)

  pub text_goes : {k p b : ℕ} {v : List ℕ} {ds : List Sign} → ContentText l k p v ds b → (i : Bool) (u q : ℕ) → mode_in m i ≡ k
      → Lies d p q v
      → Stop (drop q d)
      → Goes l bad d m w (stand i u p) (stand i (first_of u b) q) (cond i [] ds)
  unfolding signs_of
  text_goes {p = p} end i u q md li o = let k = li.place in goes_to i u (first_of u 0) p q (first_none u) (omega arith) (silent_nil i) stay
  text_goes {k} (more {p = p} {a} {u = b} {b = bs} {s} {x} {cs} pc t) i u q md li o =
      let c = lies_cut d p q bs s li in
      let st = piece_step l bad d m w i u p k md pc (drop q d) c.0 c.1.split o in
      let ih = text_goes t i (first_of u a) q md c.1 o in
      goes_to i (first_of (first_of u a) b) (first_of u (first_of a b)) q q (first_join u a b) refl (heard_join i x cs) (step_goes st ih)
  text_goes {k} (language h b v e s) true u q md li o = never l bad d m w (ap (λ (z : ℕ). eqb z 2) md ∙ h)
  text_goes {k} (language {p = p} {a} {b = b'} {u = u'} {t} {v} {e} {s} h b x en y) false u q md li o =
      let c = lies_cut d p q (60 ∷ text) (t ++ (v ++ (e ++ s))) li in
      let c2 = lies_cut d (p + 5) q t (v ++ (e ++ s)) c.1 in
      let c3 = lies_cut d (p + 5 + length t) q v (e ++ s) c2.1 in
      let c4 = lies_cut d (p + 5 + length t + length v) q e s c3.1 in
      let h' : eqb m 2 ≡ true = rw md h in
      let en_stop : Stop (drop (p + 5 + length t + length v) d) = rw c4.0.split (ends_stop _ en) in
      let f1 = first_of u a in
      let f2 = first_of (first_of u a) b' in
      let inner = text_goes x true f1 (p + 5 + length t + length v) refl c3.0 en_stop in
      let rest = text_goes y false f2 q md c4.1 o in
      goes_to false (first_of f2 u') (first_of u (first_of a (first_of b' u'))) q q
      (first_join (first_of u a) b' u' ∙ first_join u a (first_of b' u')) refl refl
      (on (step_enter u p (p + 5 + length t) a h' b c.0 c2.0)
      (goes_join inner (on (step_leave f2 (p + 5 + length t + length v) (p + 5 + length t + length v + length e) en c4.0) rest)))

-- ---- CONTENT
-- from `at` to e a text stands that says these signs, and from e to n the end tag of w
pub record ContentAt (l : Bool) (d : List ℕ) (m : ℕ) (w : List ℕ) (at e n u : ℕ) : Type 0 where
  pub bytes : List ℕ
  pub signs : List Sign
  pub text : ContentText l m at bytes signs u
  pub lies : Lies d at e bytes
  pub ends : EndAt d w e n

end_stop : {d w : List ℕ} {e n : ℕ} → EndAt d w e n → Stop (drop e d)
end_stop {d} {w} {e} {n} x = rw x.lies.split (ends_stop (drop n d) x.ends)

module _ (l bad : Bool) (d : List ℕ) (m : ℕ) (w : List ℕ) (at e n u : ℕ) where
  ended_owed : (g : Going) → Ended l d m w g e n u → Owed l d m g e [] u
  ended_owed g x =
      let p = x.place in
      let o = x.outside in
      record {
        bytes = [];
        first = 0;
        rest = none g.inside o;
        lies = lies_none d g.next e p;
        unknown = x.unknown
            ∙ first_none g.unknown;
      } where
        none : (i : Bool) → i ≡ false → Rest l m i g.next [] [] 0
        none i o = rw o (outer end)

  owed_content : {cs : List Sign} → EndAt d w e n → Owed l d m (begun at) e cs u → ContentAt l d m w at e n u
  owed_content {cs} en o = by o.rest o.lies o.unknown where
    by : {b : List ℕ} {f : ℕ} → Rest l m false at b cs f → Lies d at e b → u ≡ f → ContentAt l d m w at e n u
    by {b} (outer t) li k = record { bytes = b; signs = cs; text = rw k t; lies = li; ends = en }

  content_sound : content_of bad d m w at ≡ Read e n u → ContentAt l d m w at e n u
  content_sound f = by (rw (← r.over) (step_view l bad d m w r.last)) where
    r : Reached l bad d m w (begun at) (Read e n u)
    r = content_reached l bad d m w (begun at) (Read e n u) f

    by : View l d m w r.last (Over (Read e n u)) → ContentAt l d m w at e n u
    by (read x) =
        let p = x.place in
        let en : EndAt d w e n = rw p x.ends in
        owed_content en (goes_back l d m bad w e u r.goes (ended_owed r.last x) (end_stop en))

  content_complete : Name w → ContentAt l d m w at e n u → content_of bad d m w at ≡ Read e n u
  content_complete na c =
      goes_content l bad d m w (text_goes l bad d m w c.text false 0 e refl c.lies (end_stop c.ends))
      ∙ content_over bad d m w (stand false u e) (Read e n u) (step_end l bad d m w u e n na c.ends.ends c.ends.lies)

-- CONTENT: a text of an element w is read up to e, its end tag up to n, with its first unknown attribute at u, exactly when characters,
-- references, comments, breaks and texts in other languages, as the mode has them, stand up to e, and that end tag up to n
pub content_exactly : (l bad : Bool) (d : List ℕ) (m : ℕ) (w : List ℕ) (at e n u : ℕ) → Name w
    → (content_of bad d m w at ≡ Read e n u) ↔ ContentAt l d m w at e n u
content_exactly l bad d m w at e n u na = (content_sound l bad d m w at e n u, content_complete l bad d m w at e n u na)

-- ---- DECODE
-- the signs of steps that are one behind the other
goes_signs : (l : Bool) (d : List ℕ) {g k : Going} {cs : List Sign} → Goes l false d 2 [] g k cs → signs_from l d g ≡ cs ++ signs_from l d k
goes_signs l d stay = refl
goes_signs l d {g} {k} (on {h = h} {s = s} {cs = xs} e r) =
    signs_next l d g h s e ∙ ap (λ (t : List Sign). signs_of l s ++ t) (goes_signs l d r)
    ∙ sym (append_assoc (signs_of l s) xs (signs_from l d k))

step_past : (d : List ℕ) (g : Going) → length d ≤ g.next → step_of false d 2 [] g ≡ Over (Fault 50 g.next)
unfolding step_of
step_past d g h = rw (le-leb (length d) g.next h)

-- a text whose mode allows less is one of those that allow all
wider_piece : {l : Bool} {m p a : ℕ} {b s : List ℕ} {x : List Sign} → ContentPiece l m p b s x a → ContentPiece l 2 p b s x a
wider_piece (plain x y z e) = plain x y z e
wider_piece (line e) = line e
wider_piece (return e) = return e
wider_piece (refer r) = refer r
wider_piece (note n) = note n
wider_piece (alone h b) = alone refl b
wider_piece (pair h b e) = pair refl b e
wider_piece (unsaid h b) = unsaid refl b

pub wider : {l : Bool} {m p u : ℕ} {s : List ℕ} {cs : List Sign} → ContentText l m p s cs u → ContentText l 2 p s cs u
wider end = end
wider (more p t) = more (wider_piece p) (wider t)
wider (language h b x e t) = language refl b x e (wider t)

stop_end : (d : List ℕ) (q : ℕ) → length d ≤ q → Stop (drop q d)
stop_end d q h = rw (drop_of_length-le d h) nothing

text_signs : (l : Bool) (d : List ℕ) {p u : ℕ} {s : List ℕ} {cs : List Sign} → ContentText l 2 p s cs u → Lies d p (length d) s
    → signs_from l d (begun p) ≡ cs
text_signs l d {p} {u} {s} {cs} t li =
    let g = text_goes l false d 2 [] t false 0 (length d) refl li (stop_end d (length d) (omega arith)) in
    goes_signs l d g
    ∙ ap (λ (x : List Sign). cs ++ x) (signs_over l d (stand false u (length d)) (Fault 50 (length d))
    (step_past d (stand false u (length d)) (omega arith)))
    ∙ append-nil cs

drop_take : (p n : ℕ) (d : List ℕ) → drop p (take (p + n) d) ≡ take n (drop p d)
drop_take zero n d = let e : 0 + n ≡ n = omega arith in rw e
drop_take (suc p) n [] = rw (take-nil {A = ℕ} (suc p + n), drop-nil {A = ℕ} (suc p), take-nil {A = ℕ} n)
drop_take (suc p) n (x ∷ d) = let e : suc p + n ≡ suc (p + n) = omega arith in rw e (drop_take p n d)

-- bytes that lie in d up to e lie in d cut there, to its end
cut_lies : {d : List ℕ} {p e : ℕ} {u : List ℕ} → p ≤ length d → Lies d p e u → Lies (take e d) p (length (take e d)) u
cut_lies {d} {p} {e} {u} h li =
    let k = li.place in
    let l : length (take e d) ≡ e = length-take-le e d (lies_within li h) in
    let a : drop p (take e d) ≡ u = rw k (drop_take p (length u) d) ∙ ap (take (length u)) li.split
    ∙ take_at u (drop e d) (length u) refl in
    record { split = a ∙ sym (append-nil u) ∙ ap (λ (t : List ℕ). u ++ t) (sym (drop-length (take e d))); place = l ∙ k }

-- DECODE: the signs of a text that was read, from its place to its end, are those that its characters, references and breaks say
pub decode_content : (l : Bool) (d : List ℕ) (m : ℕ) (w : List ℕ) (at e n u : ℕ) → at ≤ length d → (c : ContentAt l d m w at e n u)
    → signs_from l (take e d) (begun at) ≡ c.signs
decode_content l d m w at e n u h c = text_signs l (take e d) (wider c.text) (cut_lies h c.lies)

-- ---- TEXT: stretches
-- from `at` to the end of d legal characters stand, and a text that has no unknown attribute
pub record TextAt (l : Bool) (d : List ℕ) (at : ℕ) : Type 0 where
  pub legal : first_bad l d at ≡ length d
  pub signs : List Sign
  pub text : ContentText l 2 at (drop at d) signs 0

record Whole (l : Bool) (d : List ℕ) (g : Going) : Type 0 where
  pub last : Going
  pub signs : List Sign
  pub goes : Goes l false d 2 [] g last signs
  pub end : last.next ≡ length d
  pub outside : last.inside ≡ false
  pub none : last.unknown ≡ 0

module _ (l : Bool) (d : List ℕ) where
  at_end_lem : (g : Going) → length d ≤ g.next → g.next ≤ length d → text_from d g ≡ true → Whole l d g
  at_end_lem g h i e = by g.inside refl (sym (text_end d g h) ∙ e) where
    by : (b : Bool) → g.inside ≡ b → (not b && eqb g.unknown 0) ≡ true → Whole l d g
    by true o f = never l false d 2 [] f
    by false o f = record { last = g; signs = []; goes = stay; end = omega arith; outside = o; none = eqb-true g.unknown 0 f }

  first_whole : (g h : Going) (s : Said) → step_of false d 2 [] g ≡ More h s → Whole l d h → Whole l d g
  first_whole g h s e x = record {
    last = x.last;
    signs = signs_of l s
        ++ x.signs;
    goes = on e x.goes;
    end = x.end;
    outside = x.outside;
    none = x.none;
  }

  whole : (f : ℕ) (g : Going) → length d - g.next ≤ f → g.next ≤ length d → text_from d g ≡ true → Whole l d g
  whole zero g h i e = at_end_lem g (omega arith) i e
  whole (suc f) g h i e = side (whole f) (leb (length d) g.next) refl where
    by : g.next < length d → ((g : Going) → length d - g.next ≤ f → g.next ≤ length d → text_from d g ≡ true → Whole l d g) → (r : Step)
        → step_of false d 2 [] g ≡ r → Whole l d g
    by j ih (More k s) o = let x = step_on false d 2 [] g k s o in
        first_whole g k s o (ih k (omega (arith, x.0, x.1)) x.1 (sym (text_next d g k s j o) ∙ e))
    by j ih (Over c) o = never l false d 2 [] (sym (text_over d g c j o) ∙ e)

    side : ((g : Going) → length d - g.next ≤ f → g.next ≤ length d → text_from d g ≡ true → Whole l d g) → (b : Bool)
        → leb (length d) g.next ≡ b → Whole l d g
    side ih true k = at_end_lem g (leb-true (length d) g.next k) i e
    side ih false k = by (leb-false (length d) g.next k) ih (step_of false d 2 [] g) refl

  text_sound : (at : ℕ) → at ≤ length d → is_text l d at ≡ true → TextAt l d at
  unfolding is_text
  text_sound at h e = by (whole (length d) (begun at) (omega arith) h
      (and_right (eqb (first_bad l d at) (length d)) (text_from d (begun at)) e)) where
        good : first_bad l d at ≡ length d
        good = eqb-true (first_bad l d at) (length d) (and_left (eqb (first_bad l d at) (length d)) (text_from d (begun at)) e)

        owed : (g : Going) → g.next ≡ length d → g.inside ≡ false → g.unknown ≡ 0 → Owed l d 2 g (length d) [] 0
        owed g p o n = record {
          bytes = [];
          first = 0;
          rest = none g.inside o;
          lies = lies_none d g.next (length d) (sym p);
          unknown = sym
              n ∙ first_none g.unknown;
        } where
          none : (i : Bool) → i ≡ false → Rest l 2 i g.next [] [] 0
          none i o = rw o (outer end)

        to : {cs : List Sign} {b : List ℕ} {f : ℕ} → Rest l 2 false at b cs f → Lies d at (length d) b → 0 ≡ f → TextAt l d at
        to {cs} {b} (outer t) li k =
            let q : drop at d ≡ b = li.split ∙ ap (λ (x : List ℕ). b ++ x) (drop-length d) ∙ append-nil b in
            record { legal = good; signs = cs; text = rw (q, k) t }

        by : Whole l d (begun at) → TextAt l d at
        by x =
            let o = goes_back l d 2 false [] (length d) 0 x.goes (owed x.last x.end x.outside x.none)
            (stop_end d (length d) (omega arith)) in
            to o.rest o.lies o.unknown

  goes_text : {g k : Going} {cs : List Sign} → Goes l false d 2 [] g k cs → k.next ≤ length d → text_from d g ≡ text_from d k
  goes_text stay h = refl
  goes_text {g} {k} (on {h = x} {s = s} e r) h = let o = step_on false d 2 [] g x s e in
      text_next d g x s (omega (arith, o.0, o.1)) e ∙ goes_text r h

  text_complete : (at : ℕ) → at ≤ length d → TextAt l d at → is_text l d at ≡ true
  unfolding is_text
  text_complete at h t =
      let li : Lies d at (length d) (drop at d) = record {
        split = sym (append-nil (drop at d)) ∙ ap (λ (x : List ℕ). drop at d ++ x) (sym (drop-length d));
        place = omega
            (arith, length-drop at d);
      } in
      let g = text_goes l false d 2 [] t.text false 0 (length d) refl li (stop_end d (length d) (omega arith)) in
      let e : text_from d (begun at) ≡ true = goes_text g (omega arith) ∙ text_end d (stand false 0 (length d)) (omega arith) in
      rw (eq-eqb (first_bad l d at) (length d) t.legal, e)

-- TEXT: a stretch is content as of a label exactly when its characters are legal, and it is characters, references, comments, breaks and
-- whole <text> elements, with no unknown attribute; its signs are those that the grammar says
pub text_exactly : (l : Bool) (d : List ℕ) (at : ℕ) → at ≤ length d → (is_text l d at ≡ true) ↔ TextAt l d at
text_exactly l d at h = (text_sound l d at h, text_complete l d at h)

pub text_says : (l : Bool) (d : List ℕ) (at : ℕ) → at ≤ length d → (t : TextAt l d at) → signs_from l d (begun at) ≡ t.signs
text_says l d at h t =
    text_signs l d t.text (record {
      split = sym (append-nil (drop at d))
          ∙ ap (λ (x : List ℕ). drop at d ++ x) (sym (drop-length d));
      place = omega (arith, length-drop at d);
    })
