-- What the code keeps over the lines behind the name line: the records so far, and what the lines that are left say.
use Rattle.std.specs.Prelude.{◌≡◌, refl, List, [], ◌∷◌, ◌++◌, ℕ, ◌+◌, ◌≤◌, ◌<◌, ℤ, length, take, drop, set}
use Rattle.std.proofs.Math.Path.{sym, ap}
use Rattle.std.proofs.Common.{◌∙◌, append-nil, append_assoc, length-set, length-drop, length-take-le}
use native.Mathlib.Omega.{arith}
use Rattle.std.proofs.Math.ListN.{length-append}
use Rattle.std.proofs.Math.Seq.{set-append_seam}
use Rattle.places.specs.rule.Places.{put, run}
use Rattle.places.specs.Laws.{pick_run, length_put, back, once_run, below_run, length_run}
use Rattle.fields.specs.rule.Field.{spaces}
use Rattle.fieldlaws.specs.TextLaws.{length_spaces}
use Rattle.csv_fields.specs.rule.Page.{Page, start, fresh, page, Lines, broken, line, page_lines}
use Rattle.csv_fields.proofs.Page.{start_fresh, start_over}
use Rattle.import_rule.specs.rule.Line.{LineSays, line_says}
use Rattle.import_rule.specs.rule.Text.{TextSays, accepts, refuses, and_record, after_line, lines_say}
use Rattle.import_lines.specs.declared.LineEnd.{LineEnd}
use Rattle.import_lines.specs.declared.LineEnd.TheVariants.{Good, Refused, Torn}
use Rattle.import_lines.specs.Walk.{GoodLine, FaultyLine, LineTaken}
use Rattle.import_lines.specs.Judge.{SomeLine, LineJudged}
use Rattle.import_passes.specs.declared.Judged.{Judged}
use Rattle.import_passes.specs.declared.Judged.TheVariants as judged

-- ---- a record in its slot, and CR LF behind it
-- a slot that is blanked holds spaces
pub blanked : (slot : List ℕ) (n : ℕ) {slot' : List ℕ} → n ≤ length slot → slot' ≡ put slot (run 0 n) (spaces n) → take n slot' ≡ spaces n
blanked slot n h e =
    let u = put slot (run 0 n) (spaces n) in
    let k : 0 + n ≤ length u = rw (length_put slot (run 0 n) (spaces n)) (omega arith) in
    ap (take n) e ∙ sym (pick_run u 0 n k)
    ∙ back slot (run 0 n) (spaces n) (once_run 0 n) (below_run (length slot) 0 n (omega arith)) (length_spaces n ∙ sym (length_run 0 n))

pub blank_long : (slot : List ℕ) (n : ℕ) {slot' : List ℕ} → length slot ≡ n + 2 → slot' ≡ put slot (run 0 n) (spaces n) → n ≤ length slot'
blank_long slot n h e = omega (arith, h, ap length e, length_put slot (run 0 n) (spaces n))

pub blank_size : (slot : List ℕ) (n : ℕ) {slot' : List ℕ} → length slot ≡ n + 2 → slot' ≡ put slot (run 0 n) (spaces n)
    → length (take n slot') ≡ n
blank_size slot n {slot'} h e = length-take-le n slot' (blank_long slot n h e)

pub behind_two : (slot : List ℕ) (n : ℕ) {slot' : List ℕ} → length slot ≡ n + 2 → slot' ≡ put slot (run 0 n) (spaces n)
    → length (drop n slot') ≡ 2
behind_two slot n {slot'} h e = length-drop n slot' ∙ omega (arith, h, ap length e, length_put slot (run 0 n) (spaces n))

pub end_inside : (s w : List ℕ) (n : ℕ) → length s ≡ n → length w ≡ 2 → n + 1 < length (set (s ++ w) n 13)
end_inside s w n e h = omega (arith, length-set (s ++ w) n 13, length-append s w, e, h)

pub end_size : (s w slot : List ℕ) (n : ℕ) → length s ≡ n → length w ≡ 2 → length slot ≡ n + 2 → length (set (set (s ++ w) n 13) (n + 1) 10)
    ≡ length slot
end_size s w slot n e h k = omega (arith, length-set (set (s ++ w) n 13) (n + 1) 10, length-set (s ++ w) n 13, length-append s w, e, h, k)

-- the two bytes behind a record are stored
pub ended_by : (s w : List ℕ) (n : ℕ) → length s ≡ n → length w ≡ 2 → set (set (s ++ w) n 13) (n + 1) 10 ≡ s ++ (13 ∷ 10 ∷ [])
ended_by s [] n e h = absurd (omega arith)
ended_by s (a ∷ []) n e h = absurd (omega arith)
ended_by s (a ∷ b ∷ []) n e h =
    let l : n + 1 ≡ length (s ++ (13 ∷ [])) = omega (arith, length-append s (13 ∷ [])) in
    let x : set (s ++ (a ∷ b ∷ [])) n 13 ≡ (s ++ (13 ∷ []))
    ++ (b ∷ []) = rw (← e) (set-append_seam s a (b ∷ []) 13 ∙ sym (append_assoc s (13 ∷ []) (b ∷ []))) in
    ap (λ (u : List ℕ). set u (n + 1) 10) x ∙ rw l (set-append_seam (s ++ (13 ∷ [])) b [] 10) ∙ append_assoc s (13 ∷ []) (10 ∷ [])
ended_by s (a ∷ b ∷ x ∷ w) n e h = absurd (omega arith)

-- a line's record in a slot, with CR LF
pub record Ended (t : List ℤ) (d : List ℕ) (from : ℕ) (slot : List ℕ) (next : ℕ) : Type 0 where
  pub bytes : List ℕ
  pub good : GoodLine t d from bytes next
  pub is : slot ≡ bytes ++ (13 ∷ 10 ∷ [])

abbrev pub LineEnded : List ℤ → List ℕ → ℕ → List ℕ → LineEnd → Type 0
LineEnded t d from slot (Good next) = Ended t d from slot next
LineEnded t d from slot (Refused k c) = FaultyLine t d from k c
LineEnded t d from slot (Torn c) = page_lines (page fresh (drop from d)) ≡ broken c

pub line_ended : (t : List ℤ) (d : List ℕ) (from : ℕ) (s : List ℕ) {slot : List ℕ} (r : LineEnd) → LineTaken t d from s r → slot ≡ s
    ++ (13 ∷ 10 ∷ []) → LineEnded t d from slot r
line_ended t d from s (Good next) k e = record { bytes = s; good = k; is = e }
line_ended t d from s (Refused n c) k e = k
line_ended t d from s (Torn c) k e = k

-- records in front of what the lines that are left say
unfoldable pub ahead : List (List ℕ) → TextSays → TextSays
ahead [] x = x
ahead (r ∷ rs) x = and_record r (ahead rs x)

ahead_more : (rs : List (List ℕ)) (s : List ℕ) (x : TextSays) → ahead (rs ++ (s ∷ [])) x ≡ ahead rs (and_record s x)
unfolding ahead
ahead_more [] s x = refl
ahead_more (r ∷ rs) s x = ap (and_record r) (ahead_more rs s x)

pub ahead_accepts : (rs us : List (List ℕ)) → ahead rs (accepts us) ≡ accepts (rs ++ us)
unfolding ahead and_record
ahead_accepts [] us = refl
ahead_accepts (r ∷ rs) us = ap (and_record r) (ahead_accepts rs us)

pub ahead_refuses : (rs : List (List ℕ)) (k n c : ℕ) → ahead rs (refuses k n c) ≡ refuses k n c
unfolding ahead and_record
ahead_refuses [] k n c = refl
ahead_refuses (r ∷ rs) k n c = ap (and_record r) (ahead_refuses rs k n c)

-- these records, so many, stand before a place
pub record Passing (t : List ℤ) (d : List ℕ) (from at n : ℕ) (rs : List (List ℕ)) : Type 0 where
  pub count : length rs ≡ n
  pub on : from + n ≤ at
  pub within : at ≤ length d
  pub says : lines_say t 2 (page_lines (page start (drop from d))) ≡ ahead rs (lines_say t (n + 2) (page_lines (page start (drop at d))))

pub passing_none : (t : List ℤ) (d : List ℕ) (from : ℕ) → from ≤ length d → Passing t d from from 0 []
unfolding ahead
passing_none t d from h = record { count = refl; on = omega arith; within = h; says = refl }

-- some records do
pub record Judging (t : List ℤ) (d : List ℕ) (from at n : ℕ) : Type 0 where
  pub records : List (List ℕ)
  pub passing : Passing t d from at n records

pub judging_none : (t : List ℤ) (d : List ℕ) (from : ℕ) → from ≤ length d → Judging t d from from 0
judging_none t d from h = record { records = []; passing = passing_none t d from h }

-- WHAT THE LINES SAY: how many records, or the refusal
pub record Accepted (says : TextSays) (n : ℕ) : Type 0 where
  pub records : List (List ℕ)
  pub is : says ≡ accepts records
  pub count : length records ≡ n

abbrev pub JudgedAs : TextSays → Judged → Type 0
JudgedAs says (judged.Done n) = Accepted says n
JudgedAs says (judged.Refused k l c) = says ≡ refuses k l c

line_says_lem : (t : List ℤ) (d : List ℕ) (at n : ℕ) → at < length d → {fs : List (List ℕ)} {ls : Lines}
    → page_lines (page fresh (drop at d))
    ≡ line fs ls
    → lines_say t n (page_lines (page start (drop at d))) ≡ after_line n (line_says t fs) (lines_say t (n + 1) ls)
unfolding lines_say
line_says_lem t d at n h e = ap (λ (x : Page). lines_say t n (page_lines x)) (start_fresh d at h) ∙ ap (lines_say t n) e

torn_says : (t : List ℤ) (d : List ℕ) (at n c : ℕ) → at < length d → page_lines (page fresh (drop at d)) ≡ broken c
    → lines_say t n (page_lines (page start (drop at d))) ≡ refuses 61 n c
unfolding lines_say
torn_says t d at n c h e = ap (λ (x : Page). lines_say t n (page_lines x)) (start_fresh d at h) ∙ ap (lines_say t n) e

over_says : (t : List ℤ) (d : List ℕ) (at n : ℕ) → length d ≤ at → lines_say t n (page_lines (page start (drop at d))) ≡ accepts []
unfolding lines_say page_lines
over_says t d at n h = ap (λ (x : Page). lines_say t n (page_lines x)) (start_over d at h)

module _ {t : List ℤ} {d : List ℕ} {from at n : ℕ} {rs : List (List ℕ)} (w : Passing t d from at n rs) where
  pub passing_more : {s : List ℕ} {next : ℕ} → at < length d → GoodLine t d at s next → Passing t d from next (n + 1) (rs ++ (s ∷ []))
  unfolding after_line
  passing_more {s} {next} h g =
      let z : n + 2 + 1 ≡ n + 1 + 2 = omega arith in
      let x = lines_say t (n + 1 + 2) (page_lines (page start (drop next d))) in
      let e : lines_say t (n + 2) (page_lines (page start (drop at d))) ≡ and_record s x =
      line_says_lem t d at (n + 2) h g.reads ∙ ap (λ (y : LineSays). after_line (n + 2) y
      (lines_say t (n + 2 + 1) (page_lines (page start (drop next d))))) g.says
      ∙ ap (λ (i : ℕ). and_record s (lines_say t i (page_lines (page start (drop next d))))) z in
      record {
        count = omega (arith, length-append rs (s ∷ []), w.count);
        on = omega (arith, w.on, g.ahead);
        within = g.within;
        says = w.says ∙ ap (ahead rs) e ∙ sym (ahead_more rs s x);
      }

  pub passing_faulty : {k c : ℕ} → at < length d → FaultyLine t d at k c → lines_say t 2 (page_lines (page start (drop from d)))
      ≡ refuses k (n + 2) c
  unfolding after_line
  passing_faulty {k} {c} h g =
      w.says ∙ ap (ahead rs) (line_says_lem t d at (n + 2) h g.reads
      ∙ ap (λ (y : LineSays). after_line (n + 2) y (lines_say t (n + 2 + 1) g.rest)) g.says)
      ∙ ahead_refuses rs k (n + 2) c

  pub passing_torn : {c : ℕ} → at < length d → page_lines (page fresh (drop at d)) ≡ broken c
      → lines_say t 2 (page_lines (page start (drop from d))) ≡ refuses 61 (n + 2) c
  passing_torn {c} h e = w.says ∙ ap (ahead rs) (torn_says t d at (n + 2) c h e) ∙ ahead_refuses rs 61 (n + 2) c

  pub passing_over : length d ≤ at → lines_say t 2 (page_lines (page start (drop from d))) ≡ accepts rs
  passing_over h = w.says ∙ ap (ahead rs) (over_says t d at (n + 2) h) ∙ ahead_accepts rs [] ∙ ap accepts (append-nil rs)

pub judging_more : {t : List ℤ} {d : List ℕ} {from at n next : ℕ} → Judging t d from at n → at < length d
    → SomeLine t d at next → Judging t d from next (n + 1)
judging_more w h g = record { records = w.records ++ (g.bytes ∷ []); passing = passing_more w.passing h g.good }

pub judging_over : {t : List ℤ} {d : List ℕ} {from at n : ℕ} → Judging t d from at n → length d ≤ at
    → Accepted (lines_say t 2 (page_lines (page start (drop from d)))) n
judging_over w h = record { records = w.records; is = passing_over w.passing h; count = w.passing.count }

-- the case that was met
pub ended_good : (t : List ℤ) (d : List ℕ) (at : ℕ) (s : List ℕ) (r : LineEnd) {next : ℕ} → LineEnded t d at s r → r ≡ Good next
    → Ended t d at s next
ended_good t d at s r k e = rw e at k

pub judged_good : (t : List ℤ) (d : List ℕ) (at : ℕ) (r : LineEnd) {next : ℕ} → LineJudged t d at r → r ≡ Good next → SomeLine t d at next
judged_good t d at r k e = rw e at k

pub judged_faulty : (t : List ℤ) (d : List ℕ) (at : ℕ) (r : LineEnd) {n c : ℕ} → LineJudged t d at r → r ≡ Refused n c
    → FaultyLine t d at n c
judged_faulty t d at r k e = rw e at k

pub judged_torn : (t : List ℤ) (d : List ℕ) (at : ℕ) (r : LineEnd) {c : ℕ} → LineJudged t d at r → r ≡ Torn c
    → page_lines (page fresh (drop at d)) ≡ broken c
judged_torn t d at r k e = rw e at k

pub ended_faulty : (t : List ℤ) (d : List ℕ) (at : ℕ) (s : List ℕ) (r : LineEnd) {n c : ℕ} → LineEnded t d at s r → r ≡ Refused n c
    → FaultyLine t d at n c
ended_faulty t d at s r k e = rw e at k

pub ended_torn : (t : List ℤ) (d : List ℕ) (at : ℕ) (s : List ℕ) (r : LineEnd) {c : ℕ} → LineEnded t d at s r → r ≡ Torn c
    → page_lines (page fresh (drop at d)) ≡ broken c
ended_torn t d at s r k e = rw e at k
