-- What stands in the definition byte for byte as it is to be sent: it is sent at once, from there.
use Rattle.std.specs.Prelude.{◌≡◌, Bool, false, cond, not, ◌||◌, List, [], ◌∷◌, ◌++◌, ℕ, suc, ◌+◌, ◌-◌, ◌≤◌, ◌<◌, length, get_or}
use Rattle.std.specs.Prelude.{take, drop}
use Rattle.std.proofs.Math.Path.{refl, ap}
use Rattle.std.proofs.Common.{sym, ◌∙◌, append_assoc, append-nil, arith}
use Rattle.std.proofs.Math.Bool.{true}
use Rattle.tokens.specs.rule.Gap.{gap_at}
use Rattle.tokens.proofs.Gaps.{gap_two}
use Rattle.statements.specs.rule.Words.{TYPE, SINGLE, MULTIPLE, QUANTITY, CHARACTER, LOGICAL, POSITION, TO, SPECIAL, END, VALUES, VARIABLE}
use Rattle.clean_text.specs.rule.Span.{span_of}
use Rattle.sink.specs.rule.Sent.{Sent}
use Rattle.sink.specs.Sent as sent
use Rattle.sink.specs.Sent.{sent_as}
use Rattle.steps.specs.declared.Span.{Span}
use Rattle.steps.specs.Step.{span, word_found, statement_past, keyword_past, number_span}
use Rattle.steps.specs.Law.{found}
use Rattle.steps.specs.Quiet.{Quiet, quiet_byte, notes_to}
use Rattle.looks.specs.Plain.{Plain}
use Rattle.looks.specs.Stand.{Stands, Framed, stands_then, plain_stands, stands_at, stands_end, stands_first, stands_front, stands_rest}
use Rattle.looks.specs.declared.Pair.{Pair}
use Rattle.looks.specs.Figures.{Paired}
use Rattle.looks.specs.Each.{ValueAt}
use Rattle.looks.specs.Look.{opens, letters, Lined, Opened, ValueLine, SpecialLine, value_quiet, value_range, blank_stands, found_not}
use Rattle.looks.proofs.Words.{opens_quiet, statement_stands, found_stands}
use Rattle.looks.proofs.Words.{first_past, first_found, second_past, second_found, second_other}
use Rattle.pages.specs.declared.LineParts.{LineParts}
use Rattle.pages.specs.declared.Position.{Position}
use Rattle.pages.specs.declared.Run.{Run}
use Rattle.pages.specs.Page.{Page, page, before, Paged, stretch_page, framed, sort, type_line, type_at, line_at, line_text, lines_page}
use Rattle.pages.specs.Page.{places}
use Rattle.pages.specs.Page.{position_at, position_text, range_parts, range_at}
use Rattle.pages.specs.Law.{no_end, lines_done, lines_more, paged_as}

pub framed_stands : {d : List ℕ} {g e : ℕ} {pre post : List ℕ} {s : Span} → Framed d g pre s post e → Plain d s.from s.end
    → Stands d g (framed d pre s post) e
unfolding framed
framed_stands f p = stands_then f.front (stands_then (plain_stands p) f.back)

-- a word before it
pub framed_apart : (d w pre : List ℕ) (s : Span) (post : List ℕ) → w ++ framed d pre s post ≡ framed d (w ++ pre) s post
unfolding framed
framed_apart d w pre s post = sym (append_assoc w pre (span_of d s.from s.end ++ post))

-- a line that stands so is the page of what is read there
module _ {d : List ℕ} {g : ℕ} {pre post : List ℕ} {told : ℕ → Span} {e : ℕ} (l : Lined d g pre post told e) where
  lined_stands : Stands d g (framed d pre l.stretch post) e
  lined_stands = framed_stands l.frame l.plain

  pub lined_room : 2 ≤ length post → (g ≤ e) × (e ≤ length d) × (2 ≤ e)
  lined_room h = let s = lined_stands in let b = stands_end l.frame.back in (s.on, s.within, omega (arith, b))

  pub lined_page : (n : ℕ) → gap_at d n ≡ gap_at d g → stretch_page d g e ≡ page (framed d pre (told n) post) (told n).next
  unfolding stretch_page
  lined_page n q = rw (l.is n q, ← lined_stands.bytes, ← l.next)

-- ---- the lines of a block
-- what is left of a block's page behind a run
abbrev pub left_of : List ℕ → Run → Page
left_of d r = cond r.over (page [] r.next) (lines_page (4096 - r.count) d r.next)

-- THE PROMISE of what sends lines of a block, from n on with k lines before: bytes were sent, and with them the page is what is left
pub record Ran (bound : ℕ) (out : List ℕ) (at : ℕ) (out' d : List ℕ) (n k : ℕ) (r : Run) : Type 0 where
  pub text : List ℕ
  pub sent : Sent bound out at text out' r.at
  pub is : lines_page (4096 - k) d n ≡ before text (left_of d r)
  pub more : k ≤ r.count
  pub most : r.count ≤ 4096

pub ran_none : (bound : ℕ) (out : List ℕ) (at : ℕ) (d : List ℕ) (n k : ℕ) → k ≤ 4096 → Ran bound out at out d n k
    (record { at = at; next = n; count = k; over = false })
ran_none bound out at d n k h =
    record { text = []; sent = sent.nothing_sent bound out at; is = refl; more = omega arith; most = h }

pub ran_then : {bound : ℕ} {out : List ℕ} {at : ℕ} {out₁ d : List ℕ} {n k : ℕ} {r : Run} {out₂ : List ℕ} {q : Run}
    → Ran bound out at out₁ d n k r → r.over ≡ false → Ran bound out₁ r.at out₂ d r.next r.count q
    → Ran bound out at out₂ d n k q
ran_then {d = d} {q = q} a o b = record {
  text = a.text ++ b.text;
  sent = sent.then a.sent b.sent;
  is = a.is ∙ rw (o, b.is, append_assoc a.text b.text (left_of d q).text);
  more = omega (arith, a.more, b.more);
  most = b.most;
}

pub ran_left : {bound : ℕ} {out : List ℕ} {at : ℕ} {out' d : List ℕ} {n k : ℕ} {r : Run} → Ran bound out at out' d n k r → r.over ≡ false
    → Ran bound out at out' d n k (record { at = r.at; next = r.next; count = r.count; over = false })
ran_left a o = record { text = a.text; sent = a.sent; is = a.is ∙ rw o; more = a.more; most = a.most }

-- a line that stands so, and behind blanks a byte that begins no SPECIAL
module _ {d : List ℕ} {n e h : ℕ} (l : ValueLine d n e) (g : gap_at d e ≡ gap_at d h) (t : Quiet d h) (a : get_or d h 0 ≡ 83 → ⊥)
    (b : get_or d h 0 ≡ 115 → ⊥) where
  abbrev parts : LineParts
  parts = record {
    value = span n l.last l.last 0;
    text = span (l.last + 2) l.quoted.shut (l.quoted.shut + 1) 0;
    special = false;
    next = h;
  }

  ends : gap_at d (l.quoted.shut + 1) ≡ gap_at d h
  ends =
      let q = l.quoted in
      let c = q.closed in
      let a : get_or d (q.shut + 1) 0 ≡ 13 = stands_at c 1 (omega arith) in
      let b : get_or d (q.shut + 2) 0 ≡ 10 = stands_at c 2 (omega arith) in
      let i : q.shut + 1 + 1 ≡ q.shut + 2 = omega arith in
      let j : q.shut + 1 + 2 ≡ e = omega (arith, q.ends) in
      gap_two d (q.shut + 1) h (omega (arith, q.ends, c.within)) (omega (arith, a)) (rw i (omega (arith, b))) (rw j g)

  parts_are : parts ≡ line_at d n
  unfolding line_at
  parts_are = rw (
    notes_to d n n refl (value_quiet l.is.first),
    l.is.value,
    l.quoted.is,
    found_not d (l.quoted.shut + 1) h SPECIAL t ends (omega arith) a b,
  )

  line_stands : Stands d n (line_text d parts) e
  unfolding line_text framed
  line_stands = stands_then (stands_then (plain_stands l.is.plain) l.quoted.opened)
      (stands_then (plain_stands l.quoted.text) l.quoted.closed)

-- and that byte is one of a value
module _ {d : List ℕ} {n e h : ℕ} (l : ValueLine d n e) (g : gap_at d e ≡ gap_at d h) (v : ValueAt d h) where
  line_run : (k : ℕ) → k < 4096 → lines_page (4096 - k) d n ≡ before (take (e - n) (drop n d)) (lines_page (4096 - (k + 1)) d h)
  line_run k m =
      let r = value_range v in
      let a : get_or d h 0 ≡ 83 → ⊥ = λ z. omega (arith, r.1) in
      let b : get_or d h 0 ≡ 115 → ⊥ = λ z. omega (arith, r.1) in
      rw (line_stands l g (value_quiet v) a b).bytes at
      (lines_more d k n m (parts l g (value_quiet v) a b) (parts_are l g (value_quiet v) a b) (found false h)
      (sym (no_end d h (value_quiet v) (λ z. omega (arith, r.1)) (λ z. omega (arith, r.1)))) refl)

  pub line_ran : {bound : ℕ} {out : List ℕ} {at : ℕ} {out' : List ℕ} {p : ℕ} (k : ℕ) → k < 4096
      → Sent bound out at (take (e - n) (drop n d)) out' p → Ran bound out at out' d n k
      (record { at = p; next = h; count = k + 1; over = false })
  line_ran k m s =
      record { text = take (e - n) (drop n d); sent = s; is = line_run k m; more = omega arith; most = omega arith }

-- a line that stands so with SPECIAL
module _ {d : List ℕ} {n e : ℕ} (l : SpecialLine d n e) where
  abbrev special_parts : LineParts
  special_parts = record {
    value = span n l.last l.last 0;
    text = span (l.last + 2) l.quoted.shut (l.quoted.shut + 1) 0;
    special = true;
    next = e - 2;
  }

  special_are : special_parts ≡ line_at d n
  unfolding line_at opens letters
  special_are = rw (
    notes_to d n n refl (value_quiet l.is.first),
    l.is.value,
    l.quoted.is,
    second_found (34 ∷ []) SPECIAL l.quoted.closed refl,
  )

  special_stands : Stands d n (line_text d special_parts) e
  unfolding line_text framed
  special_stands = stands_then (stands_then (plain_stands l.is.plain) l.quoted.opened)
      (stands_then (plain_stands l.quoted.text) l.quoted.closed)

  special_ends : (h : ℕ) → gap_at d e ≡ gap_at d h → gap_at d (e - 2) ≡ gap_at d h
  special_ends h g =
      let c = l.quoted.closed in
      let s = l.quoted.shut in
      let q : e ≡ s + 11 = stands_end c in
      let a : get_or d (s + 9) 0 ≡ 13 = stands_at c 9 (omega arith) in
      let b : get_or d (s + 10) 0 ≡ 10 = stands_at c 10 (omega arith) in
      let i : e - 2 ≡ s + 9 = omega arith in
      let j : s + 9 + 1 ≡ s + 10 = omega arith in
      let k : s + 9 + 2 ≡ e = omega arith in
      rw i (gap_two d (s + 9) h (omega (arith, q, c.within)) (omega (arith, a)) (rw j (omega (arith, b))) (rw k g))

-- a line that stands so, with SPECIAL or without it
pub data LastLine (d : List ℕ) (n e : ℕ) : Type 0 where
  bare : ValueLine d n e → LastLine d n e
  special : SpecialLine d n e → LastLine d n e

-- END VALUES behind it
end_quiet : {d : List ℕ} {h f : ℕ} → Stands d h (END ++ (32 ∷ VALUES ++ 13 ∷ 10 ∷ [])) f → Quiet d h
unfolding opens letters
end_quiet {d} {h} x = opens_quiet d h END (h + 3) (stands_front END (32 ∷ VALUES ++ 13 ∷ 10 ∷ []) x) refl

module _ {d : List ℕ} {n e h f : ℕ} (g : gap_at d e ≡ gap_at d h) (x : Stands d h (END ++ (32 ∷ VALUES ++ 13 ∷ 10 ∷ [])) f) where
  over_page : (k : ℕ) → k < 4096 → (l : LineParts) → l ≡ line_at d n → Stands d n (line_text d l) e → gap_at d l.next ≡ gap_at d h
      → lines_page (4096 - k) d n ≡ page (take (e - n) (drop n d) ++ []) (f - 2)
  unfolding opens letters
  over_page k m l a s q = rw s.bytes at
      (lines_done d k n m l a (found true (h + 3)) (sym (first_found END VALUES x refl l.next q)) refl
      ∙ ap (page (line_text d l ++ [])) (second_past END VALUES x refl))

  last_page : LastLine d n e → (k : ℕ) → k < 4096 → lines_page (4096 - k) d n ≡ page (take (e - n) (drop n d) ++ []) (f - 2)
  last_page (bare l) k m =
      let z : get_or d h 0 ≡ 69 = stands_first x (omega arith) in
      let a : get_or d h 0 ≡ 83 → ⊥ = λ i. omega (arith, z) in
      let b : get_or d h 0 ≡ 115 → ⊥ = λ i. omega (arith, z) in
      over_page k m (parts l g (end_quiet x) a b) (parts_are l g (end_quiet x) a b) (line_stands l g (end_quiet x) a b) refl
  last_page (special l) k m = over_page k m (special_parts l) (special_are l) (special_stands l) (special_ends l h g)

  pub last_ran : {bound : ℕ} {out : List ℕ} {at : ℕ} {out' : List ℕ} {p : ℕ} (k : ℕ) → LastLine d n e → k < 4096
      → Sent bound out at (take (e - n) (drop n d)) out' p → Ran bound out at out' d n k
      (record { at = p; next = f - 2; count = k + 1; over = true })
  last_ran k l m s =
      record { text = take (e - n) (drop n d); sent = s; is = last_page l k m; more = omega arith; most = omega arith }

pub line_room : {d : List ℕ} {n e : ℕ} → ValueLine d n e → (n ≤ e) × (e ≤ length d)
line_room l =
    let q = l.quoted in
    (omega (arith, l.is.plain.on, q.text.on, q.ends), q.closed.within)

pub last_room : {d : List ℕ} {n e : ℕ} → LastLine d n e → (n ≤ e) × (e ≤ length d)
last_room (bare l) = line_room l
last_room (special l) = let s = special_stands l in (s.on, s.within)

-- a block whose page is sent
pub ran_paged : {bound : ℕ} {out : List ℕ} {at : ℕ} {out' d : List ℕ} {n : ℕ} {r : Run} (s : ℕ) → Ran bound out at out' d n 0 r
    → left_of d r ≡ page [] r.next → lines_page 4096 d s ≡ lines_page 4096 d n
    → Paged bound out at out' (record { at = r.at; next = r.next }) (lines_page 4096 d s)
ran_paged {d = d} {r = r} s t e q =
    let f : lines_page 4096 d s ≡ page (t.text ++ []) r.next = q ∙ t.is ∙ rw e in
    paged_as (record { sent = sent_as t.sent (sym (append-nil t.text)); stands = refl }) (sym f)

-- what a test of two says that was not met
pub passes : (a b : Bool) → (a || not b) ≡ false → (a ≡ false) × (b ≡ true)
passes true b e = let z : ◌≡◌ {A = ℕ} 0 1 = cc in absurd (omega arith)
passes false true e = (refl, refl)
passes false false e = let z : ◌≡◌ {A = ℕ} 0 1 = cc in absurd (omega arith)

pub neither : (a b : Bool) → (a || b) ≡ false → (a ≡ false) × (b ≡ false)
neither true b e = let z : ◌≡◌ {A = ℕ} 0 1 = cc in absurd (omega arith)
neither false true e = let z : ◌≡◌ {A = ℕ} 0 1 = cc in absurd (omega arith)
neither false false e = (refl, refl)

-- a value behind blanks
line_from : (d : List ℕ) (a b : ℕ) → gap_at d a ≡ gap_at d b → ValueAt d b → line_at d a ≡ line_at d b
unfolding line_at
line_from d a b e v = let q = value_quiet v in rw (notes_to d a b e q, notes_to d b b refl q)

lines_same : (d : List ℕ) (a b k : ℕ) → line_at d a ≡ line_at d b → lines_page (suc k) d a ≡ lines_page (suc k) d b
unfolding lines_page
lines_same d a b k e = rw e

pub lines_from_lem : (d : List ℕ) (a b : ℕ) → gap_at d a ≡ gap_at d b → ValueAt d b → lines_page 4096 d a ≡ lines_page 4096 d b
lines_from_lem d a b e v = lines_same d a b 4095 (line_from d a b e v)

-- ---- TYPE
module _ {d : List ℕ} {g : ℕ} (n e : ℕ) (q : gap_at d n ≡ gap_at d g) where
  pub type_one : Stands d g (type_line SINGLE) e → type_at d n ≡ sort 1 (e - 2)
  unfolding type_at opens letters
  type_one x = rw (first_past TYPE SINGLE x refl n q, second_found TYPE SINGLE x refl)

  pub type_two : Stands d g (type_line MULTIPLE) e → type_at d n ≡ sort 2 (e - 2)
  unfolding type_at opens letters
  type_two x = rw (
    first_past TYPE MULTIPLE x refl n q,
    second_other TYPE MULTIPLE x refl SINGLE (omega arith) (omega arith) (λ z. omega arith) (λ z. omega arith),
    second_found TYPE MULTIPLE x refl,
  )

  pub type_three : Stands d g (type_line QUANTITY) e → type_at d n ≡ sort 3 (e - 2)
  unfolding type_at opens letters
  type_three x = rw (
    first_past TYPE QUANTITY x refl n q,
    second_other TYPE QUANTITY x refl SINGLE (omega arith) (omega arith) (λ z. omega arith) (λ z. omega arith),
    second_other TYPE QUANTITY x refl MULTIPLE (omega arith) (omega arith) (λ z. omega arith) (λ z. omega arith),
    second_found TYPE QUANTITY x refl,
  )

  pub type_four : Stands d g (type_line CHARACTER) e → type_at d n ≡ sort 4 (e - 2)
  unfolding type_at opens letters
  type_four x = rw (
    first_past TYPE CHARACTER x refl n q,
    second_other TYPE CHARACTER x refl SINGLE (omega arith) (omega arith) (λ z. omega arith) (λ z. omega arith),
    second_other TYPE CHARACTER x refl MULTIPLE (omega arith) (omega arith) (λ z. omega arith) (λ z. omega arith),
    second_other TYPE CHARACTER x refl QUANTITY (omega arith) (omega arith) (λ z. omega arith) (λ z. omega arith),
    second_found TYPE CHARACTER x refl,
  )

  pub type_five : Stands d g (type_line LOGICAL) e → type_at d n ≡ sort 5 (e - 2)
  unfolding type_at opens letters
  type_five x = rw (
    first_past TYPE LOGICAL x refl n q,
    second_other TYPE LOGICAL x refl SINGLE (omega arith) (omega arith) (λ z. omega arith) (λ z. omega arith),
    second_other TYPE LOGICAL x refl MULTIPLE (omega arith) (omega arith) (λ z. omega arith) (λ z. omega arith),
    second_other TYPE LOGICAL x refl QUANTITY (omega arith) (omega arith) (λ z. omega arith) (λ z. omega arith),
    second_other TYPE LOGICAL x refl CHARACTER (omega arith) (omega arith) (λ z. omega arith) (λ z. omega arith),
    second_past TYPE LOGICAL x refl,
  )

  -- ---- END VARIABLE, and VALUES
  pub end_past : Stands d g (END ++ (32 ∷ VARIABLE ++ 13 ∷ 10 ∷ [])) e → keyword_past d (statement_past d n END) VARIABLE ≡ e - 2
  unfolding opens letters
  end_past x = rw (first_past END VARIABLE x refl n q) (second_past END VARIABLE x refl)

  pub values_past : Stands d g (VALUES ++ 13 ∷ 10 ∷ []) e → statement_past d n VALUES ≡ e - 2
  unfolding opens letters
  values_past x =
      let k : g + 6 ≡ e - 2 = omega (arith, stands_end x) in
      statement_stands (stands_front VALUES (13 ∷ 10 ∷ []) x) refl n q ∙ k

-- ---- no range
module _ {d : List ℕ} {m v : ℕ} (o : Opened d m v) where
  no_to : word_found d v TO ≡ found false (v + 1)
  no_to =
      let x = o.opens in
      let z : get_or d (v + 1) 0 ≡ 34 = stands_at x 1 (omega arith) in
      found_not d v (v + 1) TO (quiet_byte d (v + 1) (omega (arith, x.within)) (omega arith) (λ i. omega arith) (λ i. omega arith)
      (λ i. omega arith)) (blank_stands (stands_front (32 ∷ []) (34 ∷ []) x)) (omega arith) (λ i. omega arith) (λ i. omega arith)

  pub range_none : (n : ℕ) → gap_at d n ≡ gap_at d m → range_at d n ≡ range_parts false (span m v v 0) (span m v v 0) false n
  unfolding range_at
  range_none n g = rw (notes_to d n m g (value_quiet o.is.first), o.is.value, no_to)

-- ---- POSITION a TO b
pub record Positioned (d : List ℕ) (n : ℕ) (r : Position) : Type 0 where
  pub is : r.places ≡ position_at d n
  pub stands : 0 < r.end → Stands d r.from (position_text d r.places) r.end

module _ {d : List ℕ} {g : ℕ} {q : Pair} (n : ℕ) (e : gap_at d n ≡ gap_at d g)
    (p : Paired d g (POSITION ++ 32 ∷ []) (32 ∷ TO ++ 32 ∷ []) q) where
  start_is : number_span d (statement_past d n POSITION) ≡ q.first
  unfolding opens letters
  start_is = rw (statement_stands (stands_front POSITION (32 ∷ []) p.front) refl n e)
      (p.first.is (g + 8) (blank_stands (stands_rest POSITION (32 ∷ []) p.front)))

  to_behind : Stands d (q.first.end + 1) (TO ++ 32 ∷ []) q.second.from
  to_behind = stands_rest (32 ∷ []) (TO ++ 32 ∷ []) p.middle

  to_is : word_found d q.first.next TO ≡ found true (q.first.end + 1 + 2)
  unfolding opens letters
  to_is = rw p.first.next
      (found_stands (stands_front TO (32 ∷ []) to_behind) refl q.first.end
      (blank_stands (stands_front (32 ∷ []) (TO ++ 32 ∷ []) p.middle)))

  finish_is : number_span d (q.first.end + 1 + 2) ≡ q.second
  finish_is = p.second.is (q.first.end + 1 + 2) (blank_stands (stands_rest TO (32 ∷ []) to_behind))

  pub position_is : places q.first q.second q.second.next ≡ position_at d n
  unfolding position_at
  position_is = rw (start_is, to_is, finish_is)

  pub position_stands : Stands d g (position_text d (places q.first q.second q.second.next)) q.end
  unfolding position_text framed
  position_stands = stands_then (stands_then p.front (stands_then (plain_stands p.first.plain) p.middle))
      (stands_then (plain_stands p.second.plain) p.back)
