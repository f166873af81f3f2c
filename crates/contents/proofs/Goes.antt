-- Steps one behind the other: what they pass, and what the loops over them answer.
use mathlib.Core.Path.{◌≡◌, refl, sym, ap, ◌∙◌}
use mathlib.Core.Bool.{Bool, true, false, cond, ◌&&◌, not}
use mathlib.Core.List.{List, [], ◌∷◌, ◌++◌, append_assoc}
use Prim.Native.Nat.{ℕ, zero, suc, ◌+◌, ◌-◌, ◌≤◌, ◌<◌}
use native.Mathlib.Omega.{arith}
use lib.Dec.{leb, eqb}
use lib.ListN.{length, drop, length-append}
use borrow.Author.Tests.{le-leb, lt-leb}
use Rattle.scan.specs.rule.Loop.{Next, Again, Done}
use Rattle.scan.proofs.Loops.{loop_again, loop_done}
use Rattle.signs.specs.declared.Sign.{Sign}
use Rattle.pairs.specs.rule.Grammar.{Ends, ends, first_of}
use Rattle.pairs.proofs.Lies.{Lies, lies_join}
use Rattle.pairs.proofs.Given.{first_join}
use Rattle.contents.specs.rule.Grammar.{text, ContentPiece, ContentText, end, more, language}
use Rattle.contents.specs.rule.Step.{heard_of, mode_in, step_of}
use Rattle.contents.specs.rule.Content.{on_step, content_from, signs_of, said_by, signs_by, signs_from, on_text, text_step}
use Rattle.contents.specs.rule.Content.{text_from}
use Rattle.contents.specs.declared.Going.{Going}
use Rattle.contents.specs.declared.Said.{Said}
use Rattle.contents.specs.declared.Said.TheVariants as said
use Rattle.contents.specs.declared.Content.{Content}
use Rattle.contents.specs.declared.Content.TheVariants.{Fault}
use Rattle.contents.specs.declared.Step.{Step}
use Rattle.contents.specs.declared.Step.TheVariants.{More, Over}
use Rattle.contents.proofs.Views.{Stop, mark, View, passed, entered, left}
use Rattle.contents.proofs.Views.{step_view}

-- ---- a step goes on, and not beyond the end
view_on : (l : Bool) (d : List ℕ) (m : ℕ) (w : List ℕ) (g h : Going) (s : Said) → View l d m w g (More h s) → (g.next < h.next)
    × (h.next ≤ length d)
view_on l d m w g h s (passed p) = let a = p.lies.place in let b = p.some in (omega arith, p.within)
view_on l d m w g h s (entered p) = let a = p.lies.place in (omega arith, p.within)
view_on l d m w g h s (left p) = let a = p.lies.place in let b = p.some in (omega arith, p.within)

module _ (bad : Bool) (d : List ℕ) (m : ℕ) (w : List ℕ) where
  pub step_on : (g h : Going) (s : Said) → step_of bad d m w g ≡ More h s → (g.next < h.next) × (h.next ≤ length d)
  step_on g h s e = view_on false d m w g h s (rw (← e) (step_view false bad d m w g))

  -- ---- the reader's loop
  abbrev step : Going → Next Going Content
  step g = on_step (step_of bad d m w g)

  less : (g h : Going) → step g ≡ Again h → length d - h.next < length d - g.next
  less g h e = by (step_of bad d m w g) refl e where
    by : (r : Step) → step_of bad d m w g ≡ r → on_step r ≡ Again h → length d - h.next < length d - g.next
    by (More i s) o e = let q : i ≡ h = cc in let x = step_on g i s o in rw (← q) (omega arith)
    by (Over c) o e = let z : ◌≡◌ {A = ℕ} 0 1 = cc in absurd (omega arith)

  pub content_next : (g h : Going) (s : Said) → step_of bad d m w g ≡ More h s → content_from bad d m w g ≡ content_from bad d m w h
  unfolding content_from
  content_next g h s e = loop_again step (Fault 0 0) (λ g. length d - g.next) less (rw e)

  pub content_over : (g : Going) (c : Content) → step_of bad d m w g ≡ Over c → content_from bad d m w g ≡ c
  unfolding content_from
  content_over g c e = loop_done step (Fault 0 0) (λ g. length d - g.next) less (rw e)

-- ---- the decoder's
module _ (l : Bool) (d : List ℕ) where
  abbrev at : Going → Step
  at g = step_of false d 2 [] g

  cases : (f k : ℕ) (g : Going) (r : Step) → at g ≡ r → ((h : Going) (s : Said) → at g ≡ More h s → signs_by f l d h ≡ signs_by k l d h)
      → said_by l r (signs_by f l d) ≡ said_by l r (signs_by k l d)
  cases f k g (More h s) e ih = ap (λ (t : List Sign). signs_of l s ++ t) (ih h s e)
  cases f k g (Over c) e ih = refl

  enough : (f k : ℕ) (g : Going) → length d - g.next < f → length d - g.next < k → signs_by f l d g ≡ signs_by k l d g
  unfolding signs_by
  enough zero k g h i = absurd (omega arith)
  enough (suc f) zero g h i = absurd (omega arith)
  enough (suc f) (suc k) g h i =
      cases f k g (at g) refl (λ x s e. let o = step_on false d 2 [] g x s e in
      enough f k x (omega (arith, o.0, o.1)) (omega (arith, o.0, o.1)))

  pub signs_next : (g h : Going) (s : Said) → step_of false d 2 [] g ≡ More h s → signs_from l d g ≡ signs_of l s ++ signs_from l d h
  unfolding signs_from signs_by
  signs_next g h s e =
      let o = step_on false d 2 [] g h s e in
      rw e (ap (λ (t : List Sign). signs_of l s ++ t)
      (enough (length d - g.next) (suc (length d - h.next)) h (omega (arith, o.0, o.1)) (omega arith)))

  pub signs_over : (g : Going) (c : Content) → step_of false d 2 [] g ≡ Over c → signs_from l d g ≡ []
  unfolding signs_from signs_by
  signs_over g c e = rw e

-- ---- the judge's of a stretch
module _ (d : List ℕ) where
  text_less : (g h : Going) → text_step d g ≡ Again h → length d - h.next < length d - g.next
  unfolding text_step
  text_less g h e = by (leb (length d) g.next) (step_of false d 2 [] g) refl e where
    by : (q : Bool) (r : Step) → step_of false d 2 [] g ≡ r → cond q (Done (not g.inside && eqb g.unknown 0)) (on_text r) ≡ Again h
        → length d - h.next < length d - g.next
    by true r o e = let z : ◌≡◌ {A = ℕ} 0 1 = cc in absurd (omega arith)
    by false (More i s) o e = let q : i ≡ h = cc in let x = step_on false d 2 [] g i s o in rw (← q) (omega arith)
    by false (Over c) o e = let z : ◌≡◌ {A = ℕ} 0 1 = cc in absurd (omega arith)

  pub text_next : (g h : Going) (s : Said) → g.next < length d → step_of false d 2 [] g ≡ More h s → text_from d g ≡ text_from d h
  unfolding text_from text_step
  text_next g h s i e = loop_again (text_step d) false (λ g. length d - g.next) text_less (rw (lt-leb (length d) g.next i, e))

  pub text_over : (g : Going) (c : Content) → g.next < length d → step_of false d 2 [] g ≡ Over c → text_from d g ≡ false
  unfolding text_from text_step
  text_over g c i e = loop_done (text_step d) false (λ g. length d - g.next) text_less (rw (lt-leb (length d) g.next i, e))

  pub text_end : (g : Going) → length d ≤ g.next → text_from d g ≡ (not g.inside && eqb g.unknown 0)
  unfolding text_from text_step
  text_end g i = loop_done (text_step d) false (λ g. length d - g.next) text_less (rw (le-leb (length d) g.next i))

-- ---- steps one behind the other
pub data Goes (l bad : Bool) (d : List ℕ) (m : ℕ) (w : List ℕ) : Going → Going → List Sign → Type 0 where
  stay : {g : Going} → Goes l bad d m w g g []
  on : {g h k : Going} {s : Said} {cs : List Sign} → step_of bad d m w g ≡ More h s → Goes l bad d m w h k cs
      → Goes l bad d m w g k (signs_of l s ++ cs)

-- what a state still owes: the rest of a text, inside <text> the rest of that first
pub data Rest (l : Bool) (m : ℕ) : Bool → ℕ → List ℕ → List Sign → ℕ → Type 0 where
  outer : {p u : ℕ} {s : List ℕ} {cs : List Sign} → ContentText l m p s cs u → Rest l m false p s cs u
  inner : {p b u : ℕ} {v e s : List ℕ} {ds cs : List Sign} → ContentText l 1 p v ds b → Ends text e
      → ContentText l m (p + length v + length e) s cs u
      → Rest l m true p (v ++ (e ++ s)) cs (first_of b u)

-- from g to n it lies, and the first attribute that isn't known stands at a
pub record Owed (l : Bool) (d : List ℕ) (m : ℕ) (g : Going) (n : ℕ) (cs : List Sign) (a : ℕ) : Type 0 where
  pub bytes : List ℕ
  pub first : ℕ
  pub rest : Rest l m g.inside g.next bytes cs first
  pub lies : Lies d g.next n bytes
  pub unknown : a ≡ first_of g.unknown first

ends_stop : {t : List ℕ} (u : List ℕ) → Ends text t → Stop (t ++ u)
ends_stop u (ends x) = mark

module _ (l : Bool) (d : List ℕ) (m : ℕ) where
  -- a text at a place that is told otherwise
  text_at : {k p q u : ℕ} {s : List ℕ} {cs : List Sign} → p ≡ q → ContentText l k p s cs u → ContentText l k q s cs u
  text_at e t = rw (← e) t

  record Onto (i : Bool) (p n : ℕ) (cs : List Sign) (a : ℕ) : Type 0 where
    pub bytes : List ℕ
    pub rest : Rest l m i p bytes cs a
    pub lies : Lies d p n bytes

  piece_on : (i : Bool) {p h n a u : ℕ} {b t : List ℕ} {cs : List Sign} (s : Said) → Rest l m i h t cs u
      → ((t r : List ℕ) → drop h d ≡ t ++ r → Stop r → ContentPiece l (mode_in m i) p b t (signs_of l s) a)
      → Lies d p h b → Lies d h n t → Stop (drop n d) → Onto i p n (signs_of l (heard_of i s) ++ cs) (first_of a u)
  unfolding signs_of
  piece_on false {p} {h} {n} {b = b} {t} s (outer x) pc y z o =
      record { bytes = b ++ t; rest = outer (more (pc t (drop n d) z.split o) (text_at y.place x)); lies = lies_join y z }
  piece_on true {p} {h} {n} {a} {b = b} s (inner {b = q} {u} {v} {e} {s = r} {ds} {cs} x en xs) pc y z o =
      let f : drop h d ≡ v ++ (e ++ (r ++ drop n d)) = z.split ∙ append_assoc v (e ++ r) (drop n d)
      ∙ ap (λ (t : List ℕ). v ++ t) (append_assoc e r (drop n d)) in
      let k = y.place in
      let g : h + length v + length e ≡ p + length (b ++ v) + length e = omega (arith, length-append b v) in
      record {
        bytes = (b ++ v) ++ (e ++ r);
        rest = first_at (first_join a q u) (inner (more (pc v (e ++ (r ++ drop n d)) f (ends_stop (r ++ drop n d) en)) (text_at k x)) en
            (text_at g xs));
        lies = rw (append_assoc b v (e ++ r)) (lies_join y z);
      } where
        first_at : {i : Bool} {p x y : ℕ} {s : List ℕ} {cs : List Sign} → x ≡ y → Rest l m i p s cs x → Rest l m i p s cs y
        first_at e t = rw (← e) t

  inside_same : {i j : Bool} {p u : ℕ} {s : List ℕ} {cs : List Sign} → j ≡ i → Rest l m j p s cs u → Rest l m i p s cs u
  inside_same e t = rw (← e) t

  signs_same : (i : Bool) (p n a : ℕ) (s t : Said) (cs : List Sign) → t ≡ s → Onto i p n (signs_of l s ++ cs) a
      → Onto i p n (signs_of l t ++ cs) a
  signs_same i p n a s t cs e x = rw e x

  silent : (i : Bool) {j : Bool} {p u : ℕ} {b : List ℕ} (s : Said) (cs : List Sign) → i ≡ j → s ≡ said.Nothing → Rest l m j p b cs u
      → Rest l m i p b (signs_of l s ++ cs) u
  unfolding signs_of
  silent i s cs e f x = rw (e, f) x

  pub step_back : (w : List ℕ) (g h : Going) (s : Said) (n a : ℕ) (cs : List Sign) → View l d m w g (More h s) → Owed l d m h n cs a
      → Stop (drop n d) → Owed l d m g n (signs_of l s ++ cs) a
  unfolding signs_of
  step_back w g h s n a cs (passed p) o st =
      let x = signs_same g.inside g.next n (first_of p.first o.first) (heard_of g.inside p.said) s cs p.says
      (piece_on g.inside p.said (inside_same p.inside o.rest) p.piece p.lies o.lies st) in
      record {
        bytes = x.bytes;
        first = first_of p.first o.first;
        rest = x.rest;
        lies = x.lies;
        unknown = o.unknown ∙ ap (λ (t : ℕ). first_of t o.first) p.unknown ∙ first_join g.unknown p.first o.first;
      }
  step_back w g h s n a cs (entered p) o st =
      let x = go (inside_same p.inside o.rest) o.lies in
      let out = p.outside in
      let says = p.says in
      record {
        bytes = x.bytes;
        first = first_of p.first o.first;
        rest = silent g.inside s cs out says x.rest;
        lies = x.lies;
        unknown = o.unknown ∙ ap (λ (t : ℕ). first_of t o.first) p.unknown ∙ first_join g.unknown p.first o.first;
      } where
        go : {t : List ℕ} {cs : List Sign} {u : ℕ} → Rest l m true h.next t cs u → Lies d h.next n t
            → Onto false g.next n cs (first_of p.first u)
        go {t} (inner {v = v} {e} {s = r} x en xs) li =
            let k = p.lies.place in
            let i : h.next ≡ g.next + 5 + length p.bytes = omega arith in
            record {
              bytes = 60 ∷ (text ++ (p.bytes ++ (v ++ (e ++ r))));
              rest = outer (language p.mode p.behind (text_at i x) en (text_at (ap (λ (y : ℕ). y + length v + length e) i) xs));
              lies = lies_join p.lies li;
            }
  step_back w g h s n a cs (left p) o st =
      let x = go (inside_same p.outside o.rest) o.lies in
      let ins = p.inside in
      let says = p.says in
      record {
        bytes = x.bytes;
        first = o.first;
        rest = silent g.inside s cs ins says x.rest;
        lies = x.lies;
        unknown = o.unknown ∙ ap (λ (t : ℕ). first_of t o.first) p.unknown;
      } where
        go : {t : List ℕ} {cs : List Sign} {u : ℕ} → Rest l m false h.next t cs u → Lies d h.next n t → Onto true g.next n cs u
        go {t} (outer x) li =
            let k = p.lies.place in
            let i : h.next ≡ g.next + 0 + length p.bytes = omega arith in
            record { bytes = p.bytes ++ t; rest = inner end p.ends (text_at i x); lies = lies_join p.lies li }

  pub goes_back : (bad : Bool) (w : List ℕ) {g k : Going} {cs ds : List Sign} (n a : ℕ) → Goes l bad d m w g k cs → Owed l d m k n ds a
      → Stop (drop n d) → Owed l d m g n (cs ++ ds) a
  goes_back bad w n a stay o st = o
  goes_back bad w {g} {cs = cs} {ds} n a (on {h = h} {s = s} {cs = xs} e r) o st =
      let x = step_back w g h s n a (xs ++ ds) (rw (← e) (step_view l bad d m w g)) (goes_back bad w n a r o st) st in
      rw (append_assoc (signs_of l s) xs ds) x

-- ---- how a run ends
pub record Reached (l bad : Bool) (d : List ℕ) (m : ℕ) (w : List ℕ) (g : Going) (c : Content) : Type 0 where
  pub last : Going
  pub signs : List Sign
  pub goes : Goes l bad d m w g last signs
  pub over : step_of bad d m w last ≡ Over c

module _ (l bad : Bool) (d : List ℕ) (m : ℕ) (w : List ℕ) where
  first_step : (g h : Going) (s : Said) (c : Content) → step_of bad d m w g ≡ More h s → Reached l bad d m w h c → Reached l bad d m w g c
  first_step g h s c e r = record { last = r.last; signs = signs_of l s ++ r.signs; goes = on e r.goes; over = r.over }

  here : (g : Going) (c c' : Content) → step_of bad d m w g ≡ Over c' → content_from bad d m w g ≡ c → Reached l bad d m w g c
  here g c c' o e = record { last = g; signs = []; goes = stay; over = o ∙ ap Over (sym (content_over bad d m w g c' o) ∙ e) }

  reached : (f : ℕ) (g : Going) (c : Content) → length d - g.next ≤ f → content_from bad d m w g ≡ c → Reached l bad d m w g c
  reached zero g c i e = by (step_of bad d m w g) refl where
    by : (r : Step) → step_of bad d m w g ≡ r → Reached l bad d m w g c
    by (More h s) o = let x = step_on bad d m w g h s o in absurd (omega (arith, x.0, x.1))
    by (Over c') o = here g c c' o e
  reached (suc f) g c i e = by (reached f) (step_of bad d m w g) refl where
    by : ((g : Going) (c : Content) → length d - g.next ≤ f → content_from bad d m w g ≡ c → Reached l bad d m w g c) → (r : Step)
        → step_of bad d m w g ≡ r → Reached l bad d m w g c
    by ih (More h s) o =
        let x = step_on bad d m w g h s o in
        first_step g h s c o (ih h c (omega (arith, x.0, x.1)) (sym (content_next bad d m w g h s o) ∙ e))
    by ih (Over c') o = here g c c' o e

  pub content_reached : (g : Going) (c : Content) → content_from bad d m w g ≡ c → Reached l bad d m w g c
  content_reached g c e = reached (length d) g c (omega arith) e

  pub goes_content : {g k : Going} {cs : List Sign} → Goes l bad d m w g k cs → content_from bad d m w g ≡ content_from bad d m w k
  goes_content stay = refl
  goes_content {g} (on {h = h} {s = s} e r) = content_next bad d m w g h s e ∙ goes_content r
