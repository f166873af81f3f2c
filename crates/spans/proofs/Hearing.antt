-- What a stretch says, character by character, and in XML's words.
use mathlib.Core.Path.{◌≡◌, refl, sym, ap, ◌∙◌}
use mathlib.Core.Logic.{◌↔◌}
use mathlib.Core.Bool.{Bool, true, false, cond}
use mathlib.Core.List.{List, [], ◌∷◌, ◌++◌, append_assoc}
use Prim.Native.Nat.{ℕ, zero, suc, ◌+◌, ◌-◌, ◌≤◌, ◌<◌}
use native.Mathlib.Omega.{arith}
use lib.Dec.{leb, eqb}
use lib.ListN.{length, drop, get_or, length-append, length-drop, drop_of_length-le}
use borrow.Author.Tests.{ne_eqb, eqb-true, eqb-false, le-leb, lt-leb, leb-true, leb-false}
use Rattle.std.proofs.Common.{Option, Some, None}
use Rattle.scan.specs.rule.Loop.{Next, Again}
use Rattle.scan.proofs.Loops.{loop_again, loop_done}
use Rattle.utf.proofs.Strides.{drop_1}
use Rattle.markup.specs.rule.Bytes.{stands}
use Rattle.markup.specs.rule.Reference.{reference_of}
use Rattle.markup.specs.rule.Gap.{xml_comment}
use Rattle.markup.specs.declared.Skip.{Skip}
use Rattle.markup.specs.declared.Skip.TheVariants.{Past, Broken}
use Rattle.markup.proofs.Runs.{first_at, onward}
use Rattle.markup.proofs.References.{Referred, reference_sound, reference_complete}
use Rattle.markup.proofs.Gaps.{comment_sound, comment_complete, stands_split}
use Rattle.spans.specs.rule.Heard.{Says, nothing, plain, refer, note, of_char, of_note, noted_of, part_of, of_part, first_heard, Heard, All}
use Rattle.spans.specs.rule.Heard.{Ill, after, on_first, heard_by, heard}
use Rattle.spans.specs.declared.First.{First}
use Rattle.spans.specs.declared.First.TheVariants.{One, End, Not}
use Rattle.spans.specs.declared.Part.{Part}
use Rattle.spans.specs.declared.Part.TheVariants.{Passed, Stop}

-- from p to n bytes stand that say the characters of `said`, before whatever follows
pub record Step (s : List ℕ) (p n : ℕ) (said : List ℕ) : Type 0 where
  pub bytes : List ℕ
  pub split : drop p s ≡ bytes ++ drop n s
  pub some : 0 < length bytes
  pub place : n ≡ p + length bytes
  pub within : n ≤ length s
  pub says : (t cs : List ℕ) → Says t cs → Says (bytes ++ t) (said ++ cs)

-- bytes u, followed by t, up to m
stepped : (s : List ℕ) (p m : ℕ) (u t said : List ℕ) → drop p s ≡ u ++ t → 0 < length u → m ≡ p + length u → p < length s
    → ((t cs : List ℕ) → Says t cs → Says (u ++ t) (said ++ cs)) → Step s p m said
stepped s p m u t said e h k i f =
    let o : drop m s ≡ t = rw k (onward s p (length u) u t e refl) in
    let l = ap length e in
    let a = length-append u t in
    let q = length-drop p s in
    record { bytes = u; split = rw o e; some = h; place = k; within = omega arith; says = f }

module _ (s : List ℕ) where
  with_ref : (p c m : ℕ) → p < length s → get_or s p 0 ≡ 38 → Referred (drop (p + 1) s) p c m → Step s p m (c ∷ [])
  with_ref p c m h e r =
      let k = r.place in
      let a : drop p s ≡ (38 ∷ r.bytes) ++ r.rest = drop_1 s p h ∙ rw (e, r.split) in
      stepped s p m (38 ∷ r.bytes) r.rest (c ∷ []) a (omega arith) (omega arith) h (λ t cs v. refer r.ref v)

  with_note : (p m : ℕ) → p < length s → stands (60 ∷ 33 ∷ 45 ∷ 45 ∷ []) (drop p s) ≡ true → xml_comment false p (p + 4) (drop (p + 4) s)
      ≡ Past m → Step s p m []
  with_note p m h e f =
      let x = stands_split (60 ∷ 33 ∷ 45 ∷ 45 ∷ []) (drop p s) e in
      let r = comment_sound false p (p + 4) m (drop (p + 4) s) f in
      let k = r.place in
      let y : drop (p + 4) s ≡ x.0 = onward s p 4 (60 ∷ 33 ∷ 45 ∷ 45 ∷ []) x.0 x.1 refl in
      let a : drop p s ≡ (60 ∷ 33 ∷ 45 ∷ 45 ∷ r.bytes) ++ r.rest = x.1 ∙ ap (λ (t : List ℕ). 60 ∷ 33 ∷ 45 ∷ 45 ∷ t) (sym y ∙ r.split) in
      stepped s p m (60 ∷ 33 ∷ 45 ∷ 45 ∷ r.bytes) r.rest [] a (omega arith) (omega arith) h (λ t cs v. note r.note v)

  -- what one step finds
  pub part_passed : (p m : ℕ) → part_of s p ≡ Passed m → Step s p m []
  unfolding part_of noted_of
  part_passed p m e = by (leb (length s) p) (eqb (get_or s p 0) 38) (eqb (get_or s p 0) 60) refl e where
    noted : (r : Bool) → stands (60 ∷ 33 ∷ 45 ∷ 45 ∷ []) (drop p s) ≡ r → p < length s
        → cond r (of_note (xml_comment false p (p + 4) (drop (p + 4) s))) (Stop Not) ≡ Passed m → Step s p m []
    noted true f h e = past (xml_comment false p (p + 4) (drop (p + 4) s)) refl e where
      past : (k : Skip) → xml_comment false p (p + 4) (drop (p + 4) s) ≡ k → of_note k ≡ Passed m → Step s p m []
      past (Past n) g e = let i : n ≡ m = cc in with_note p m h f (g ∙ ap Past i)
      past (Broken q) g e = let z : ◌≡◌ {A = ℕ} 0 1 = cc in absurd (omega arith)
    noted false f h e = let z : ◌≡◌ {A = ℕ} 0 1 = cc in absurd (omega arith)

    by : (a b c : Bool) → leb (length s) p ≡ a
        → cond a (Stop End) (cond b (Stop (of_char (reference_of p (drop (p + 1) s))))
        (cond c (cond (stands (60 ∷ 33 ∷ 45 ∷ 45 ∷ []) (drop p s)) (of_note (xml_comment false p (p + 4) (drop (p + 4) s))) (Stop Not))
        (Stop (One (get_or s p 0) (p + 1))))) ≡ Passed m
        → Step s p m []
    by true b c f e = let z : ◌≡◌ {A = ℕ} 0 1 = cc in absurd (omega arith)
    by false true c f e = let z : ◌≡◌ {A = ℕ} 0 1 = cc in absurd (omega arith)
    by false false true f e = noted (stands (60 ∷ 33 ∷ 45 ∷ 45 ∷ []) (drop p s)) refl (leb-false (length s) p f) e
    by false false false f e = let z : ◌≡◌ {A = ℕ} 0 1 = cc in absurd (omega arith)

  part_one : (p c n : ℕ) → part_of s p ≡ Stop (One c n) → Step s p n (c ∷ [])
  unfolding part_of noted_of
  part_one p c n e = by (leb (length s) p) (eqb (get_or s p 0) 38) (eqb (get_or s p 0) 60) refl refl refl e where
    char : (k : Option (ℕ × ℕ)) → reference_of p (drop (p + 1) s) ≡ k → p < length s → get_or s p 0 ≡ 38 → Stop (of_char k) ≡ Stop (One c n)
        → Step s p n (c ∷ [])
    char (Some (x, m)) g h i e =
        let j : x ≡ c = cc in
        let k : m ≡ n = cc in
        with_ref p c n h i (reference_sound p c n (drop (p + 1) s) (g ∙ rw (j, k)))
    char None g h i e = let z : ◌≡◌ {A = ℕ} 0 1 = cc in absurd (omega arith)

    noted : (r : Bool) (k : Skip) → cond r (of_note k) (Stop Not) ≡ Stop (One c n) → Step s p n (c ∷ [])
    noted true (Past m) e = let z : ◌≡◌ {A = ℕ} 0 1 = cc in absurd (omega arith)
    noted true (Broken q) e = let z : ◌≡◌ {A = ℕ} 0 1 = cc in absurd (omega arith)
    noted false k e = let z : ◌≡◌ {A = ℕ} 0 1 = cc in absurd (omega arith)

    by : (a b r : Bool) → leb (length s) p ≡ a → eqb (get_or s p 0) 38 ≡ b → eqb (get_or s p 0) 60 ≡ r
        → cond a (Stop End) (cond b (Stop (of_char (reference_of p (drop (p + 1) s))))
        (cond r (cond (stands (60 ∷ 33 ∷ 45 ∷ 45 ∷ []) (drop p s)) (of_note (xml_comment false p (p + 4) (drop (p + 4) s))) (Stop Not))
        (Stop (One (get_or s p 0) (p + 1))))) ≡ Stop (One c n)
        → Step s p n (c ∷ [])
    by true b r f g h e = let z : ◌≡◌ {A = ℕ} 0 1 = cc in absurd (omega arith)
    by false true r f g h e = char (reference_of p (drop (p + 1) s)) refl (leb-false (length s) p f) (eqb-true (get_or s p 0) 38 g) e
    by false false true f g h e = noted (stands (60 ∷ 33 ∷ 45 ∷ 45 ∷ []) (drop p s)) (xml_comment false p (p + 4) (drop (p + 4) s)) e
    by false false false f g h e =
        let l = leb-false (length s) p f in
        let k : p + 1 ≡ n = cc in
        let i : get_or s p 0 ≡ c = cc in
        stepped s p n (c ∷ []) (drop (p + 1) s) (c ∷ []) (drop_1 s p l ∙ rw i) (omega arith) (sym k) l
        (λ t cs v. plain (λ q. eqb-false (get_or s p 0) 38 g (i ∙ q)) (λ q. eqb-false (get_or s p 0) 60 h (i ∙ q)) v)

  -- nothing is left exactly at the end
  part_end : (p : ℕ) → part_of s p ≡ Stop End → length s ≤ p
  unfolding part_of noted_of
  part_end p e = by (leb (length s) p) (eqb (get_or s p 0) 38) (eqb (get_or s p 0) 60) refl e where
    char : (k : Option (ℕ × ℕ)) → Stop (of_char k) ≡ Stop End → length s ≤ p
    char (Some (x, m)) e = let z : ◌≡◌ {A = ℕ} 0 1 = cc in absurd (omega arith)
    char None e = let z : ◌≡◌ {A = ℕ} 0 1 = cc in absurd (omega arith)

    noted : (r : Bool) (k : Skip) → cond r (of_note k) (Stop Not) ≡ Stop End → length s ≤ p
    noted true (Past m) e = let z : ◌≡◌ {A = ℕ} 0 1 = cc in absurd (omega arith)
    noted true (Broken q) e = let z : ◌≡◌ {A = ℕ} 0 1 = cc in absurd (omega arith)
    noted false k e = let z : ◌≡◌ {A = ℕ} 0 1 = cc in absurd (omega arith)

    by : (a b r : Bool) → leb (length s) p ≡ a
        → cond a (Stop End) (cond b (Stop (of_char (reference_of p (drop (p + 1) s))))
        (cond r (cond (stands (60 ∷ 33 ∷ 45 ∷ 45 ∷ []) (drop p s)) (of_note (xml_comment false p (p + 4) (drop (p + 4) s))) (Stop Not))
        (Stop (One (get_or s p 0) (p + 1))))) ≡ Stop End
        → length s ≤ p
    by true b r f e = leb-true (length s) p f
    by false true r f e = char (reference_of p (drop (p + 1) s)) e
    by false false true f e = noted (stands (60 ∷ 33 ∷ 45 ∷ 45 ∷ []) (drop p s)) (xml_comment false p (p + 4) (drop (p + 4) s)) e
    by false false false f e = let z : ◌≡◌ {A = ℕ} 0 1 = cc in absurd (omega arith)

  -- ---- the first character
  abbrev step : ℕ → Next ℕ First
  step p = of_part (part_of s p)

  less : (p m : ℕ) → step p ≡ Again m → length s - m < length s - p
  less p m e = by (part_of s p) refl e where
    by : (r : Part) → part_of s p ≡ r → of_part r ≡ Again m → length s - m < length s - p
    by (Passed k) f e = let h : k ≡ m = cc in let g = part_passed p k f in let a = g.place in let b = g.some in let c = g.within in
        omega arith
    by (Stop r) f e = let z : ◌≡◌ {A = ℕ} 0 1 = cc in absurd (omega arith)

  pub first_next : (p m : ℕ) → part_of s p ≡ Passed m → first_heard s p ≡ first_heard s m
  unfolding first_heard
  first_next p m e = loop_again step Not (λ p. length s - p) less (rw e)

  pub first_stop : (p : ℕ) (r : First) → part_of s p ≡ Stop r → first_heard s p ≡ r
  unfolding first_heard
  first_stop p r e = loop_done step Not (λ p. length s - p) less (rw e)

  joined : (p m n : ℕ) (said : List ℕ) → Step s p m [] → Step s m n said → Step s p n said
  joined p m n said x y =
      let a = x.place in
      let b = y.place in
      let c = x.some in
      let l = length-append x.bytes y.bytes in
      record {
        bytes = x.bytes ++ y.bytes;
        split = x.split ∙ ap (λ (t : List ℕ). x.bytes ++ t) y.split ∙ sym (append_assoc x.bytes y.bytes (drop n s));
        some = omega arith;
        place = omega arith;
        within = y.within;
        says = λ t cs v. rw (append_assoc x.bytes y.bytes t) (x.says (y.bytes ++ t) (said ++ cs) (y.says t cs v));
      }

  one_by : (k p c n : ℕ) → length s - p ≤ k → first_heard s p ≡ One c n → Step s p n (c ∷ [])
  one_by zero p c n h e = by (part_of s p) refl where
    by : (r : Part) → part_of s p ≡ r → Step s p n (c ∷ [])
    by (Passed m) f = let g = part_passed p m f in let a = g.place in let b = g.some in let i = g.within in absurd (omega arith)
    by (Stop r) f = part_one p c n (f ∙ ap Stop (sym (first_stop p r f) ∙ e))
  one_by (suc k) p c n h e = by (one_by k) (part_of s p) refl where
    by : ((p c n : ℕ) → length s - p ≤ k → first_heard s p ≡ One c n → Step s p n (c ∷ [])) → (r : Part) → part_of s p ≡ r
        → Step s p n (c ∷ [])
    by ih (Passed m) f =
        let g = part_passed p m f in
        let a = g.place in
        let b = g.some in
        let i = g.within in
        joined p m n (c ∷ []) g (ih m c n (omega arith) (sym (first_next p m f) ∙ e))
    by ih (Stop r) f = part_one p c n (f ∙ ap Stop (sym (first_stop p r f) ∙ e))

  pub first_one : (p c n : ℕ) → first_heard s p ≡ One c n → Step s p n (c ∷ [])
  first_one p c n e = one_by (length s) p c n (omega arith) e

  pub first_on : (p c n : ℕ) → first_heard s p ≡ One c n → (p < n) × (n ≤ length s)
  first_on p c n e =
      let g = first_one p c n e in
      let a = g.place in
      let b = g.some in
      (omega arith, g.within)

  end_by : (k p : ℕ) → length s - p ≤ k → first_heard s p ≡ End → Says (drop p s) []
  end_by zero p h e = by (part_of s p) refl where
    by : (r : Part) → part_of s p ≡ r → Says (drop p s) []
    by (Passed m) f = let g = part_passed p m f in let a = g.place in let b = g.some in let i = g.within in absurd (omega arith)
    by (Stop r) f = rw (drop_of_length-le s (part_end p (f ∙ ap Stop (sym (first_stop p r f) ∙ e)))) nothing
  end_by (suc k) p h e = by (end_by k) (part_of s p) refl where
    by : ((p : ℕ) → length s - p ≤ k → first_heard s p ≡ End → Says (drop p s) []) → (r : Part) → part_of s p ≡ r → Says (drop p s) []
    by ih (Passed m) f =
        let g = part_passed p m f in
        let a = g.place in
        let b = g.some in
        let i = g.within in
        rw g.split (g.says (drop m s) [] (ih m (omega arith) (sym (first_next p m f) ∙ e)))
    by ih (Stop r) f = rw (drop_of_length-le s (part_end p (f ∙ ap Stop (sym (first_stop p r f) ∙ e)))) nothing

  -- ---- all of them
  cases : (f g p : ℕ) (r : First) → first_heard s p ≡ r → ((c n : ℕ) → first_heard s p ≡ One c n → heard_by f s n ≡ heard_by g s n)
      → on_first r (heard_by f s) ≡ on_first r (heard_by g s)
  cases f g p (One c n) e ih = ap (after c) (ih c n e)
  cases f g p End e ih = refl
  cases f g p Not e ih = refl

  enough : (f g p : ℕ) → length s - p < f → length s - p < g → heard_by f s p ≡ heard_by g s p
  unfolding heard_by
  enough zero g p h k = absurd (omega arith)
  enough (suc f) zero p h k = absurd (omega arith)
  enough (suc f) (suc g) p h k =
      cases f g p (first_heard s p) refl (λ c n e. let o = first_on p c n e in
      enough f g n (omega (arith, o.0, o.1)) (omega (arith, o.0, o.1)))

  pub heard_one : (p c n : ℕ) → first_heard s p ≡ One c n → heard s p ≡ after c (heard s n)
  unfolding heard heard_by
  heard_one p c n e =
      let o = first_on p c n e in
      rw e (ap (after c) (enough (length s - p) (suc (length s - n)) n (omega (arith, o.0, o.1)) (omega arith)))

  pub heard_end : (p : ℕ) → first_heard s p ≡ End → heard s p ≡ All []
  unfolding heard heard_by
  heard_end p e = rw e

  pub heard_not : (p : ℕ) → first_heard s p ≡ Not → heard s p ≡ Ill
  unfolding heard heard_by
  heard_not p e = rw e

  -- ---- in XML's words
  heard_same : (p m : ℕ) → first_heard s p ≡ first_heard s m → heard s p ≡ heard s m
  heard_same p m e = by (first_heard s m) refl where
    by : (r : First) → first_heard s m ≡ r → heard s p ≡ heard s m
    by (One c n) f = heard_one p c n (e ∙ f) ∙ sym (heard_one m c n f)
    by End f = heard_end p (e ∙ f) ∙ sym (heard_end m f)
    by Not f = heard_not p (e ∙ f) ∙ sym (heard_not m f)

  -- what follows the first character says the rest
  sound_more : (p c n : ℕ) (cs : List ℕ) → first_heard s p ≡ One c n → ((q : List ℕ) → heard s n ≡ All q → Says (drop n s) q) → heard s p
      ≡ All cs → Says (drop p s) cs
  sound_more p c n cs f ih e = tail (heard s n) refl where
    tail : (t : Heard) → heard s n ≡ t → Says (drop p s) cs
    tail (All q) i =
        let g : All (c ∷ q) ≡ All cs = ap (after c) (sym i) ∙ sym (heard_one p c n f) ∙ e in
        let j : c ∷ q ≡ cs = cc in
        let x = first_one p c n f in
        rw (x.split, ← j) (x.says (drop n s) q (ih q i))
    tail Ill i = let g : Ill ≡ All cs = ap (after c) (sym i) ∙ sym (heard_one p c n f) ∙ e in let z : ◌≡◌ {A = ℕ} 0 1 = cc in
        absurd (omega arith)

  sound_end : (p : ℕ) (cs : List ℕ) → first_heard s p ≡ End → heard s p ≡ All cs → Says (drop p s) cs
  sound_end p cs f e = let g : All [] ≡ All cs = sym (heard_end p f) ∙ e in let i : [] ≡ cs = cc in
      rw (← i) (end_by (length s) p (omega arith) f)

  sound_not : (p : ℕ) (cs : List ℕ) → first_heard s p ≡ Not → heard s p ≡ All cs → Says (drop p s) cs
  sound_not p cs f e = let g : Ill ≡ All cs = sym (heard_not p f) ∙ e in let z : ◌≡◌ {A = ℕ} 0 1 = cc in absurd (omega arith)

  sound : (k p : ℕ) (cs : List ℕ) → length s - p ≤ k → heard s p ≡ All cs → Says (drop p s) cs
  sound zero p cs h e = by (first_heard s p) refl where
    by : (r : First) → first_heard s p ≡ r → Says (drop p s) cs
    by End f = sound_end p cs f e
    by Not f = sound_not p cs f e
    by (One c n) f = let o = first_on p c n f in absurd (omega (arith, o.0, o.1))
  sound (suc k) p cs h e = by (sound k) (first_heard s p) refl where
    by : ((p : ℕ) (cs : List ℕ) → length s - p ≤ k → heard s p ≡ All cs → Says (drop p s) cs) → (r : First) → first_heard s p ≡ r
        → Says (drop p s) cs
    by ih End f = sound_end p cs f e
    by ih Not f = sound_not p cs f e
    by ih (One c n) f = let o = first_on p c n f in sound_more p c n cs f (λ q i. ih n q (omega (arith, o.0, o.1)) i) e

  complete : {u cs : List ℕ} → Says u cs → (p : ℕ) → drop p s ≡ u → heard s p ≡ All cs
  unfolding part_of noted_of stands
  complete nothing p e =
      let l = ap length e in
      let n = length-drop p s in
      heard_end p (first_stop p End (rw (le-leb (length s) p (omega arith))))
  complete (plain {b} {s = t} {cs} x y v) p e =
      let r = first_at s p b t e in
      heard_one p b (p + 1) (first_stop p (One b (p + 1)) (rw (r.1, lt-leb (length s) p r.0, ne_eqb b 38 x, ne_eqb b 60 y)))
      ∙ ap (after b) (complete v (p + 1) (onward s p 1 (b ∷ []) t e refl))
  complete (refer {c} {u} {s = t} {cs} w v) p e =
      let r = first_at s p 38 (u ++ t) e in
      let o : drop (p + 1) s ≡ u ++ t = onward s p 1 (38 ∷ []) (u ++ t) e refl in
      let i : reference_of p (drop (p + 1) s) ≡ Some (c, p + 1 + length u) = rw o (reference_complete p w t) in
      heard_one p c (p + 1 + length u) (first_stop p (One c (p + 1 + length u)) (rw (r.1, lt-leb (length s) p r.0, i)))
      ∙ ap (after c) (complete v (p + 1 + length u) (onward s (p + 1) (length u) u t o refl))
  complete (note {u} {s = t} {cs} w v) p e =
      let r = first_at s p 60 (33 ∷ 45 ∷ 45 ∷ u ++ t) e in
      let o : drop (p + 4) s ≡ u ++ t = onward s p 4 (60 ∷ 33 ∷ 45 ∷ 45 ∷ []) (u ++ t) e refl in
      let i : xml_comment false p (p + 4) (drop (p + 4) s) ≡ Past (p + 4 + length u) = rw o (comment_complete false p (p + 4) w t) in
      heard_same p (p + 4 + length u) (first_next p (p + 4 + length u) (rw (r.1, lt-leb (length s) p r.0, e, i)))
      ∙ complete v (p + 4 + length u) (onward s (p + 4) (length u) u t o refl)

-- HEARD: a stretch says cs exactly when it is bytes, references and comments that say so
pub heard_exactly : (s cs : List ℕ) → (heard s 0 ≡ All cs) ↔ Says s cs
heard_exactly s cs = (λ e. sound s (length s) 0 cs (omega arith) e, λ v. complete s v 0 refl)
