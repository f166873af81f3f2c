-- A comment one byte on, and a gap one step on.
use mathlib.Core.Path.{◌≡◌, refl, sym, ap, ◌∙◌}
use mathlib.Core.Bool.{Bool, true, false, cond, ◌&&◌}
use mathlib.Core.List.{List, [], ◌∷◌, ◌++◌, append_assoc}
use Prim.Native.Nat.{ℕ, zero, suc, ◌+◌, ◌-◌, ◌≤◌, ◌<◌}
use native.Mathlib.Omega.{arith}
use lib.Dec.{eqb}
use mathlib.Core.Logic.{◌↔◌}
use lib.Seq.{drop-drop}
use borrow.Author.Tests.{eqb-true, eqb-false, ne_eqb}
use Rattle.markup.specs.rule.Grammar.{Note, close, plain, dash, Gap, none, white, note}
use lib.ListN.{length, drop, get_or, drop_of_length-le, length-drop, length-append}
use Rattle.scan.specs.rule.Loop.{Next, Again}
use Rattle.scan.proofs.Loops.{loop_again, loop_done}
use Rattle.utf.proofs.Strides.{drop_1}
use Rattle.markup.specs.rule.Bytes.{is_white, stands}
use Rattle.markup.specs.rule.Bytes.{end_fault}
use Rattle.markup.specs.rule.Gap.{xml_comment, on_skip, move_of, next_move, gap_of}
use Rattle.markup.specs.declared.Skip.{Skip}
use Rattle.markup.specs.declared.Skip.TheVariants.{Past, Broken}
use Rattle.markup.specs.declared.Move.{Move}
use Rattle.markup.specs.declared.Move.TheVariants.{Go, Stop}
use Rattle.markup.proofs.Runs.{onward}

module _ (bad : Bool) (opened : ℕ) (d : List ℕ) (p : ℕ) where
  pub comment_next : p < length d → stands (45 ∷ 45 ∷ []) (drop p d) ≡ false → xml_comment bad opened p (drop p d)
      ≡ xml_comment bad opened (p + 1) (drop (p + 1) d)
  unfolding xml_comment
  comment_next h e =
      let f = rw (drop_1 d p h) at e in
      rw (drop_1 d p h, f)

  pub comment_closed : p < length d → stands (45 ∷ 45 ∷ []) (drop p d) ≡ true → stands (45 ∷ 45 ∷ 62 ∷ []) (drop p d) ≡ true
      → xml_comment bad opened p (drop p d) ≡ Past (p + 3)
  unfolding xml_comment
  comment_closed h e k =
      let f = rw (drop_1 d p h) at e in
      let g = rw (drop_1 d p h) at k in
      rw (drop_1 d p h, f, g)

  pub comment_broken : p < length d → stands (45 ∷ 45 ∷ []) (drop p d) ≡ true → stands (45 ∷ 45 ∷ 62 ∷ []) (drop p d) ≡ false
      → xml_comment bad opened p (drop p d) ≡ Broken p
  unfolding xml_comment
  comment_broken h e k =
      let f = rw (drop_1 d p h) at e in
      let g = rw (drop_1 d p h) at k in
      rw (drop_1 d p h, f, g)

  pub comment_end : length d ≤ p → xml_comment bad opened p (drop p d) ≡ Broken (end_fault bad p opened)
  unfolding xml_comment
  comment_end h = rw (drop_of_length-le d h)

-- ---- one step of a gap, by the file's bytes
module _ (bad : Bool) (d : List ℕ) (p : ℕ) where
  pub move_end : length d ≤ p → move_of bad p (drop p d) ≡ Stop (Past p)
  unfolding move_of
  move_end h = rw (drop_of_length-le d h)

  pub move_white : p < length d → is_white (get_or d p 0) ≡ true → move_of bad p (drop p d) ≡ Go (p + 1)
  unfolding move_of
  move_white h e = rw (drop_1 d p h, e)

  pub move_note : p < length d → is_white (get_or d p 0) ≡ false → stands (60 ∷ 33 ∷ 45 ∷ 45 ∷ []) (drop p d) ≡ true
      → move_of bad p (drop p d) ≡ on_skip (xml_comment bad p (p + 4) (drop (p + 4) d))
  unfolding move_of
  move_note h e k =
      let g = rw (drop_1 d p h) at k in
      let n : p + 1 + 3 ≡ p + 4 = omega arith in
      rw (drop_1 d p h, e, g, drop-drop 3 (p + 1) d, n)

  pub move_none : p < length d → is_white (get_or d p 0) ≡ false → stands (60 ∷ 33 ∷ 45 ∷ 45 ∷ []) (drop p d) ≡ false
      → move_of bad p (drop p d) ≡ Stop (Past p)
  unfolding move_of
  move_none h e k =
      let g = rw (drop_1 d p h) at k in
      rw (drop_1 d p h, e, g)

-- bytes that stand first are there
stood : (x : ℕ) (w s : List ℕ) → stands (x ∷ w) s ≡ true → (t : List ℕ) × (s ≡ x ∷ t) × (stands w t ≡ true)
unfolding stands
stood x w [] e = let z : ◌≡◌ {A = ℕ} 0 1 = cc in absurd (omega arith)
stood x w (b ∷ t) e = by (eqb b x) refl e where
  by : (q : Bool) → eqb b x ≡ q → (q && stands w t) ≡ true → (u : List ℕ) × (b ∷ t ≡ x ∷ u) × (stands w u ≡ true)
  by true f e = let h = eqb-true b x f in (t, rw h, e)
  by false f e = let z : ◌≡◌ {A = ℕ} 0 1 = cc in absurd (omega arith)

pub stands_split : (w s : List ℕ) → stands w s ≡ true → (t : List ℕ) × (s ≡ w ++ t)
stands_split [] s e = (s, refl)
stands_split (x ∷ w) s e = let r = stood x w s e in let i = stands_split w r.0 r.2 in (i.0, r.1 ∙ ap (λ (t : List ℕ). x ∷ t) i.1)

pub stands_long : (w s : List ℕ) → stands w s ≡ true → length w ≤ length s
stands_long w s e = let r = stands_split w s e in omega (arith, ap length r.1, length-append w r.0)

-- ---- a comment is its bytes
-- from p on a comment's end lies before n
pub record Noted (s : List ℕ) (p n : ℕ) : Type 0 where
  pub bytes : List ℕ
  pub rest : List ℕ
  pub note : Note bytes
  pub split : s ≡ bytes ++ rest
  pub place : n ≡ p + length bytes

pub comment_complete : (bad : Bool) (o p : ℕ) {u : List ℕ} → Note u → (t : List ℕ) → xml_comment bad o p (u ++ t) ≡ Past (p + length u)
unfolding xml_comment stands
comment_complete bad o p close t = refl
comment_complete bad o p (plain {b} {s} h r) t =
    let e : p + 1 + length s ≡ p + suc (length s) = omega arith in
    rw (ne_eqb b 45 h) (comment_complete bad o (p + 1) r t ∙ ap Past e)
comment_complete bad o p (dash {b} {s} h r) t =
    let e : p + 1 + 1 + length s ≡ p + suc (suc (length s)) = omega arith in
    rw (ne_eqb b 45 h) (comment_complete bad o (p + 1 + 1) r t ∙ ap Past e)

-- one byte more in front, if it makes no second dash
more_note : (b : ℕ) {u : List ℕ} (t : List ℕ) → stands (45 ∷ 45 ∷ []) (b ∷ u ++ t) ≡ false → Note u → Note (b ∷ u)
unfolding stands
more_note b {u} t e r = by (eqb b 45) refl e where
  with_dash : {u : List ℕ} → (true && stands (45 ∷ []) (u ++ t)) ≡ false → Note u → Note (45 ∷ u)
  with_dash e close = let z : ◌≡◌ {A = ℕ} 0 1 = cc in absurd (omega arith)
  with_dash e (plain h r) = dash h r
  with_dash e (dash h r) = let z : ◌≡◌ {A = ℕ} 0 1 = cc in absurd (omega arith)

  by : (q : Bool) → eqb b 45 ≡ q → (q && stands (45 ∷ []) (u ++ t)) ≡ false → Note (b ∷ u)
  by false f e = plain (eqb-false b 45 f) r
  by true f e = let h = eqb-true b 45 f in rw h (with_dash e r)

pub comment_sound : (bad : Bool) (o p n : ℕ) (s : List ℕ) → xml_comment bad o p s ≡ Past n → Noted s p n
unfolding xml_comment
comment_sound bad o p n [] e = let z : ◌≡◌ {A = ℕ} 0 1 = cc in absurd (omega arith)
comment_sound bad o p n (b ∷ s) e =
    by (stands (45 ∷ 45 ∷ []) (b ∷ s)) (stands (45 ∷ 45 ∷ 62 ∷ []) (b ∷ s)) refl refl (comment_sound bad o (p + 1) n s) e where
      by : (q r : Bool) → stands (45 ∷ 45 ∷ []) (b ∷ s) ≡ q → stands (45 ∷ 45 ∷ 62 ∷ []) (b ∷ s) ≡ r
          → (xml_comment bad o (p + 1) s ≡ Past n → Noted s (p + 1) n)
          → cond q (cond r (Past (p + 3)) (Broken p)) (xml_comment bad o (p + 1) s) ≡ Past n → Noted (b ∷ s) p n
      by true true f g ih e =
          let x = stands_split (45 ∷ 45 ∷ 62 ∷ []) (b ∷ s) g in
          record { bytes = 45 ∷ 45 ∷ 62 ∷ []; rest = x.0; note = close; split = x.1; place = cc }
      by true false f g ih e = let z : ◌≡◌ {A = ℕ} 0 1 = cc in absurd (omega arith)
      by false r f g ih e =
          let i = ih e in
          let f' : stands (45 ∷ 45 ∷ []) (b ∷ i.bytes ++ i.rest)
          ≡ false = ap (λ (t : List ℕ). stands (45 ∷ 45 ∷ []) (b ∷ t)) (sym i.split) ∙ f in
          let k = i.place in
          record {
            bytes = b ∷ i.bytes;
            rest = i.rest;
            note = more_note b i.rest f' i.note;
            split = ap (λ (t : List ℕ). b ∷ t) i.split;
            place = omega arith;
          }

-- COMMENT: past n exactly when bytes up to n are those of a comment, behind its <!--
pub comment_exactly : (bad : Bool) (o p n : ℕ) (s : List ℕ) → (xml_comment bad o p s ≡ Past n) ↔ Noted s p n
comment_exactly bad o p n s =
    (comment_sound bad o p n s, λ r. rw (r.split, r.place) (comment_complete bad o p r.note r.rest))

-- ---- a gap, step by step
-- what one step passes: a byte of white space or a comment
pub record Moved (s : List ℕ) (p m : ℕ) : Type 0 where
  pub bytes : List ℕ
  pub rest : List ℕ
  pub split : s ≡ bytes ++ rest
  pub some : 0 < length bytes
  pub place : m ≡ p + length bytes
  pub gaps : (g : List ℕ) → Gap g → Gap (bytes ++ g)

moved_note : (s t : List ℕ) (p m : ℕ) → s ≡ 60 ∷ 33 ∷ 45 ∷ 45 ∷ t → Noted t (p + 4) m → Moved s p m
moved_note s t p m e r =
    let k = r.place in
    record {
      bytes = 60 ∷ 33 ∷ 45 ∷ 45 ∷ r.bytes;
      rest = r.rest;
      split = e ∙ ap (λ (t : List ℕ). 60 ∷ 33 ∷ 45 ∷ 45 ∷ t) r.split;
      some = omega arith;
      place = omega arith;
      gaps = λ g h. note r.note h;
    }

pub move_go : (bad : Bool) (p m : ℕ) (s : List ℕ) → move_of bad p s ≡ Go m → Moved s p m
unfolding move_of
move_go bad p m [] e = let z : ◌≡◌ {A = ℕ} 0 1 = cc in absurd (omega arith)
move_go bad p m (b ∷ s) e = by (is_white b) (stands (60 ∷ 33 ∷ 45 ∷ 45 ∷ []) (b ∷ s)) refl refl e where
  skip : (r : Skip) → xml_comment bad p (p + 4) (drop 3 s) ≡ r → stands (60 ∷ 33 ∷ 45 ∷ 45 ∷ []) (b ∷ s) ≡ true → on_skip r ≡ Go m
      → Moved (b ∷ s) p m
  skip (Past n) f g e =
      let x = stands_split (60 ∷ 33 ∷ 45 ∷ 45 ∷ []) (b ∷ s) g in
      let k : n ≡ m = cc in
      let y : drop 3 s ≡ x.0 = ap (drop 4) x.1 in
      moved_note (b ∷ s) x.0 p m x.1 (rw (← k, ← y) (comment_sound bad p (p + 4) n (drop 3 s) f))
  skip (Broken q) f g e = let z : ◌≡◌ {A = ℕ} 0 1 = cc in absurd (omega arith)

  by : (q r : Bool) → is_white b ≡ q → stands (60 ∷ 33 ∷ 45 ∷ 45 ∷ []) (b ∷ s) ≡ r
      → cond q (Go (p + 1)) (cond r (on_skip (xml_comment bad p (p + 4) (drop 3 s))) (Stop (Past p))) ≡ Go m → Moved (b ∷ s) p m
  by true r f g e = record { bytes = b ∷ []; rest = s; split = refl; some = omega arith; place = cc; gaps = λ h k. white f k }
  by false true f g e = skip (xml_comment bad p (p + 4) (drop 3 s)) refl g e
  by false false f g e = let z : ◌≡◌ {A = ℕ} 0 1 = cc in absurd (omega arith)

-- neither white space nor a comment stands first
pub record NoGap (s : List ℕ) : Type 0 where
  pub no_white : (b : ℕ) (t : List ℕ) → s ≡ b ∷ t → is_white b ≡ false
  pub no_note : stands (60 ∷ 33 ∷ 45 ∷ 45 ∷ []) s ≡ false

nil_no : stands (60 ∷ 33 ∷ 45 ∷ 45 ∷ []) [] ≡ false
unfolding stands
nil_no = refl

pub move_over : (bad : Bool) (p n : ℕ) (s : List ℕ) → move_of bad p s ≡ Stop (Past n) → (n ≡ p) × NoGap s
unfolding move_of
move_over bad p n [] e = (cc, record { no_white = λ b t f. absurd_nil f; no_note = nil_no }) where
  absurd_nil : {A : Type 0} {b : ℕ} {t : List ℕ} → [] ≡ b ∷ t → A
  absurd_nil f = let z : ◌≡◌ {A = ℕ} 0 1 = cc in absurd (omega arith)
move_over bad p n (b ∷ s) e = by (is_white b) (stands (60 ∷ 33 ∷ 45 ∷ 45 ∷ []) (b ∷ s)) refl refl e where
  skip : (r : Skip) → on_skip r ≡ Stop (Past n) → (n ≡ p) × NoGap (b ∷ s)
  skip (Past m) e = let z : ◌≡◌ {A = ℕ} 0 1 = cc in absurd (omega arith)
  skip (Broken q) e = let z : ◌≡◌ {A = ℕ} 0 1 = cc in absurd (omega arith)

  by : (q r : Bool) → is_white b ≡ q → stands (60 ∷ 33 ∷ 45 ∷ 45 ∷ []) (b ∷ s) ≡ r
      → cond q (Go (p + 1)) (cond r (on_skip (xml_comment bad p (p + 4) (drop 3 s))) (Stop (Past p))) ≡ Stop (Past n) → (n ≡ p)
      × NoGap (b ∷ s)
  by true r f g e = let z : ◌≡◌ {A = ℕ} 0 1 = cc in absurd (omega arith)
  by false true f g e = skip (xml_comment bad p (p + 4) (drop 3 s)) e
  by false false f g e = (cc, record { no_white = λ c t h. let k : c ≡ b = cc in rw k f; no_note = g })

pub over_move : (bad : Bool) (p : ℕ) (s : List ℕ) → NoGap s → move_of bad p s ≡ Stop (Past p)
unfolding move_of
over_move bad p [] n = refl
over_move bad p (b ∷ s) n = rw (n.no_white b s refl, n.no_note)

module _ (bad : Bool) (d : List ℕ) where
  abbrev step : ℕ → Next ℕ Skip
  step p = next_move (move_of bad p (drop p d))

  pub move_less : (p m : ℕ) → move_of bad p (drop p d) ≡ Go m → (p < m) × (m ≤ length d)
  move_less p m e =
      let r = move_go bad p m (drop p d) e in
      let a = r.place in
      let b = r.some in
      let c = ap length r.split in
      let n = length-append r.bytes r.rest in
      let k = length-drop p d in
      (omega arith, omega arith)

  less : (p m : ℕ) → step p ≡ Again m → length d - m < length d - p
  less p m e = by (move_of bad p (drop p d)) refl e where
    by : (r : Move) → move_of bad p (drop p d) ≡ r → next_move r ≡ Again m → length d - m < length d - p
    by (Go k) f e = let h : k ≡ m = cc in let l = move_less p k f in omega arith
    by (Stop r) f e = let z : ◌≡◌ {A = ℕ} 0 1 = cc in absurd (omega arith)

  pub gap_next : (p m : ℕ) → move_of bad p (drop p d) ≡ Go m → gap_of bad d p ≡ gap_of bad d m
  unfolding gap_of
  gap_next p m e = loop_again step (Past 0) (λ p. length d - p) less (rw e)

  pub gap_stop : (p : ℕ) (r : Skip) → move_of bad p (drop p d) ≡ Stop r → gap_of bad d p ≡ r
  unfolding gap_of
  gap_stop p r e = loop_done step (Past 0) (λ p. length d - p) less (rw e)

-- from p to n white space and comments stand, and at n neither
pub record Gapped (d : List ℕ) (p n : ℕ) : Type 0 where
  pub bytes : List ℕ
  pub gap : Gap bytes
  pub split : drop p d ≡ bytes ++ drop n d
  pub place : n ≡ p + length bytes
  pub over : NoGap (drop n d)

module _ (bad : Bool) (d : List ℕ) where
  gap_complete : (n : ℕ) {g : List ℕ} → Gap g → (p : ℕ) → drop p d ≡ g ++ drop n d → n ≡ p + length g → NoGap (drop n d) → gap_of bad d p
      ≡ Past n
  unfolding move_of is_white stands
  gap_complete n none p e f o =
      let k : n ≡ p = omega arith in
      gap_stop bad d p (Past n) (rw e (over_move bad p (drop n d) o ∙ ap (λ (x : ℕ). Stop (Past x)) (sym k)))
  gap_complete n (white {b} {s} w g) p e f o =
      gap_next bad d p (p + 1) (rw (e, w)) ∙ gap_complete n g (p + 1) (onward d p 1 (b ∷ []) (s ++ drop n d) e refl) (omega arith) o
  gap_complete n (note {u} {s} k g) p e f o =
      let a = e ∙ ap (λ (t : List ℕ). 60 ∷ 33 ∷ 45 ∷ 45 ∷ t) (append_assoc u s (drop n d)) in
      let m : p + 4 + length u ≡ p + suc (suc (suc (suc (length u)))) = omega arith in
      let f' : n ≡ p + 4 + length u + length s = omega (arith, length-append u s) in
      gap_next bad d p (p + 4 + length u) (rw (a, comment_complete bad p (p + 4) k (s ++ drop n d)))
      ∙ gap_complete n g (p + 4 + length u) (rw m
      (onward d p (suc (suc (suc (suc (length u))))) (60 ∷ 33 ∷ 45 ∷ 45 ∷ u) (s ++ drop n d) a refl)) f' o

  then : (p m n : ℕ) → Moved (drop p d) p m → Gapped d m n → Gapped d p n
  then p m n r g =
      let a = r.place in
      let b = g.place in
      let o : drop (p + length r.bytes) d ≡ r.rest = onward d p (length r.bytes) r.bytes r.rest r.split refl in
      let o' : drop m d ≡ r.rest = rw a o in
      record {
        bytes = r.bytes ++ g.bytes;
        gap = r.gaps g.bytes g.gap;
        split = r.split ∙ ap (λ (t : List ℕ). r.bytes ++ t) (sym o' ∙ g.split) ∙ sym (append_assoc r.bytes g.bytes (drop n d));
        place = omega (arith, length-append r.bytes g.bytes);
        over = g.over;
      }

  gap_sound : (k p n : ℕ) → length d - p ≤ k → gap_of bad d p ≡ Past n → Gapped d p n
  gap_sound zero p n h e = by (move_of bad p (drop p d)) refl where
    by : (r : Move) → move_of bad p (drop p d) ≡ r → Gapped d p n
    by (Go m) f = let l = move_less bad d p m f in absurd (omega arith)
    by (Stop r) f =
        let x : move_of bad p (drop p d) ≡ Stop (Past n) = f ∙ ap Stop (sym (gap_stop bad d p r f) ∙ e) in
        let y = move_over bad p n (drop p d) x in
        let z = y.0 in
        record { bytes = []; gap = none; split = rw z; place = omega arith; over = rw z y.1 }
  gap_sound (suc k) p n h e = by (gap_sound k) (move_of bad p (drop p d)) refl where
    by : ((p n : ℕ) → length d - p ≤ k → gap_of bad d p ≡ Past n → Gapped d p n) → (r : Move) → move_of bad p (drop p d) ≡ r → Gapped d p n
    by ih (Go m) f =
        let l = move_less bad d p m f in
        then p m n (move_go bad p m (drop p d) f) (ih m n (omega arith) (sym (gap_next bad d p m f) ∙ e))
    by ih (Stop r) f =
        let x : move_of bad p (drop p d) ≡ Stop (Past n) = f ∙ ap Stop (sym (gap_stop bad d p r f) ∙ e) in
        let y = move_over bad p n (drop p d) x in
        let z = y.0 in
        record { bytes = []; gap = none; split = rw z; place = omega arith; over = rw z y.1 }

-- GAP: past n exactly when white space and comments stand up to n, and neither at n
pub gap_exactly : (bad : Bool) (d : List ℕ) (p n : ℕ) → (gap_of bad d p ≡ Past n) ↔ Gapped d p n
gap_exactly bad d p n = (gap_sound bad d (length d) p n (omega arith), λ g. gap_complete bad d n g.gap p g.split g.place g.over)
