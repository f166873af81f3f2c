-- A FILE IN PARTS (rule/Parts) gets its own verdict; where a part left off; the number of a file's terminator.
use Rattle.std.specs.Prelude.{◌≡◌, Bool, not, ◌&&◌, eqb, leb, ℤ, take, drop}
use Rattle.std.proofs.Math.Path.{refl, ap}
use Rattle.std.proofs.Common.{sym, ◌∙◌, zero-mul, suc-mul, eqb-true, ne_eqb, take-append-drop, drop-drop}
use Rattle.std.proofs.Math.Bool.{true, false, cond}
use mathlib.Core.List.{List, [], ◌∷◌, ◌++◌}
use Prim.Native.Nat.{ℕ, zero, suc, ◌+◌, ◌*◌, ◌-◌, ◌≤◌}
use native.Mathlib.Omega.{arith}
use Rattle.std.proofs.Math.ListN.{length}
use Rattle.std.proofs.Math.Seq.{length-take-le}
use Rattle.below.specs.Below.{holds_not}
use Rattle.cuts.specs.declared.Terminator.{Terminator}
use Rattle.cuts.specs.declared.Next.{Next}
use Rattle.cuts.specs.declared.Next.TheVariants.{Ended, Unended, Nothing}
use Rattle.cuts.specs.rule.Cut.{one_byte, two_bytes, begins_with, terminator_at, terminator_of, whole_at, begins_at, next_from}
use Rattle.cuts.specs.rule.Records.{Records, over, unended, record_and, at_end, cut, records_from, records_of, count_ended, length_of_first}
use Rattle.cuts.specs.Records.{part, EndedAt, next_ended, next_unended, next_nothing, over_past}
use Rattle.sound.specs.rule.Sound.{well_formed}
use Rattle.sound.specs.rule.Rows.{rows_of, length_of}
use Rattle.records.specs.rule.Verdict.{Verdict, sound, refused, low_byte, bad_field, rows_verdict}
use Rattle.files.specs.rule.File.{FileVerdict, sound_with, bad_table, fault_in, record_verdict, go_on, first_length, records_verdict}
use Rattle.files.specs.rule.File.{file_verdict}
use Rattle.files.specs.rule.File.{is_sound}
use Rattle.files.specs.File.{go_sound, go_fault}
use Rattle.file_laws.specs.rule.Files.{records_before, AllSound, none_yet, one_more}
use Rattle.parts.specs.rule.Part.{numbered, part_records, PartVerdict, judged_as, part_verdict}
use Rattle.parts.specs.Part.{part_bad, part_judged}
use Rattle.part_laws.specs.rule.Exactly.{IsNumber, PartOutcome, not_formed, no_number, all_sound, left_alone, not_ended}
use Rattle.part_laws.specs.rule.Exactly.{other_length, record_fault}
use Rattle.part_laws.specs.rule.Parts.{followed, in_parts, FileNumber, has_none, has}
use Rattle.part_laws.specs.Exactly.{number_some, part_named}

-- ---- the records of a part are the first of those that are left, but for one that it ends without
pub data Begins : Records → Records → Type 0 where
  stops : {rest : Records} → Begins over rest
  half : {r : List ℕ} {rest : Records} → Begins (unended r) rest
  same : {r : List ℕ} {a b : Records} → Begins a b → Begins (record_and r a) (record_and r b)

end_begins : (r : List ℕ) {rest : Records} → Begins (at_end r) rest
unfolding at_end
end_begins [] = stops
end_begins (b ∷ r) = half

module _ (w : Terminator) where
  -- where one byte is a whole terminator, it is one whatever follows
  single_more : (b : ℕ) (q : List ℕ) → begins_at w (b ∷ []) ≡ true → begins_at w (b ∷ q) ≡ true
  unfolding begins_at whole_at begins_with
  single_more b q e = go (eqb b w.first) (eqb w.size 2) e
    where
      go : (x y : Bool) → x && cond y false (eqb w.size 1) ≡ true → x && cond y (begins_with w.second q) (eqb w.size 1) ≡ true
      go true true h = holds_not h refl
      go true false h = h
      go false y h = holds_not h refl

  pub cut_begins : (p : List ℕ) (k : ℕ) (r q : List ℕ) → Begins (cut w k r p) (cut w k r (p ++ q))
  unfolding cut begins_at whole_at begins_with
  cut_begins [] zero r q = end_begins r
  cut_begins [] (suc k) r q = end_begins r
  cut_begins (b ∷ p) (suc k) r q = cut_begins p k r q
  cut_begins (b ∷ []) zero r q = go (begins_at w (b ∷ [])) refl (cut_begins [] (w.size - 1) [] q)
    where
      go : (x : Bool) → begins_at w (b ∷ []) ≡ x → Begins (cut w (w.size - 1) [] []) (cut w (w.size - 1) [] q)
          → Begins (cond x (record_and r (cut w (w.size - 1) [] [])) (cut w 0 (r ++ b ∷ []) [])) (cut w 0 r (b ∷ q))
      go true e ih = rw (single_more b q e) (same ih)
      go false e ih = end_begins (r ++ b ∷ [])
  cut_begins (b ∷ c ∷ p) zero r q = go (begins_at w (b ∷ c ∷ p)) (cut_begins (c ∷ p) (w.size - 1) [] q)
      (cut_begins (c ∷ p) 0 (r ++ b ∷ []) q)
    where
      go : (x : Bool) → Begins (cut w (w.size - 1) [] (c ∷ p)) (cut w (w.size - 1) [] (c ∷ p ++ q))
          → Begins (cut w 0 (r ++ b ∷ []) (c ∷ p)) (cut w 0 (r ++ b ∷ []) (c ∷ p ++ q))
          → Begins (cond x (record_and r (cut w (w.size - 1) [] (c ∷ p))) (cut w 0 (r ++ b ∷ []) (c ∷ p)))
          (cond x (record_and r (cut w (w.size - 1) [] (c ∷ p ++ q))) (cut w 0 (r ++ b ∷ []) (c ∷ p ++ q)))
      go true h g = same h
      go false h g = g

-- ---- behind the first record stand the others
pub record Split (w : Terminator) (s r : List ℕ) (rest : Records) : Type 0 where
  pub left : rest ≡ records_from w (drop (length r + w.size) s)

unfoldable rest_of : Records → Records
rest_of over = over
rest_of (unended r) = over
rest_of (record_and r rs) = rs

unfoldable head_of : Records → List ℕ
head_of over = []
head_of (unended r) = []
head_of (record_and r rs) = r

unfoldable has_first : Records → Bool
has_first over = false
has_first (unended r) = false
has_first (record_and r rs) = true

module _ (w : Terminator) (s : List ℕ) {r : List ℕ} {rest : Records} (e : records_from w s ≡ record_and r rest) where
  split_ended : {a z n : ℕ} → EndedAt s w 0 (records_from w s) a z n → Split w s r rest
  unfolding head_of rest_of
  split_ended {a} {z} {n} h =
      let hd : r ≡ part s 0 z = ap head_of (sym e ∙ h.records) in
      let tl : rest ≡ records_from w (drop n s) = ap rest_of (sym e ∙ h.records) in
      let l : length r ≡ z = ap length hd ∙ length-take-le (z - 0) s (omega (arith, h.inside)) ∙ omega arith in
      record { left = tl ∙ ap (λ (x : ℕ). records_from w (drop x s)) (h.next ∙ ap (λ (x : ℕ). x + w.size) (sym l)) }

  split : Split w s r rest
  unfolding has_first
  split = go (next_from w 0 s) refl
    where
      go : (n : Next) → next_from w 0 s ≡ n → Split w s r rest
      go (Ended a z n) q = split_ended (next_ended s w 0 q)
      go (Unended a z) q = holds_not (ap has_first e) (ap has_first (next_unended s w 0 q).records)
      go Nothing q = holds_not (ap has_first e) (ap has_first (over_past s w 0 (next_nothing s w 0 q)))

-- ---- what a part says of its file
-- a sound record has the first one's length
sound_first : (t : List ℤ) (first : ℕ) (r : List ℕ) → is_sound (record_verdict t first r) ≡ true → length r ≡ first
unfolding record_verdict is_sound
sound_first t first r e = go (eqb (length r) first) refl (leb (length_of t) (length r)) e
  where
    go : (p : Bool) → eqb (length r) first ≡ p → (q : Bool)
        → is_sound (cond p (cond q (rows_verdict t (rows_of t) r) (refused 22)) (refused 31)) ≡ true → length r ≡ first
    go true a q g = eqb-true (length r) first a
    go false a q g = holds_not g refl

module _ (t : List ℤ) (w : Terminator) (first : ℕ) where
  -- of a part with the records a, at the start of s, behind any n others: its fault is that of s, or it left off where its count says
  pub data Told (a : Records) (s : List ℕ) : Type 0 where
    fault_at : (j : ℕ) (v : Verdict) → ((n : ℕ) → part_records t n first false a ≡ fault_in (n + j) v)
        → ((n : ℕ) → part_records t n first true (records_from w s) ≡ fault_in (n + j) v) → Told a s
    sound_to : (m : ℕ) → ((n : ℕ) → part_records t n first false a ≡ sound_with (n + m))
        → ((n : ℕ) → part_records t n first true (records_from w s)
        ≡ part_records t (n + m) first true (records_from w (drop (m * (first + w.size)) s)))
        → Told a s

  -- nothing ended in the part
  told_none : (a : Records) (s : List ℕ) → ((n : ℕ) → part_records t n first false a ≡ sound_with n) → Told a s
  told_none a s h =
      sound_to 0 (λ n. let z : n + 0 ≡ n = omega arith in rw z (h n))
      (λ n. let z : n + 0 ≡ n = omega arith in rw (z, zero-mul (first + w.size)))

  -- a record that is not sound ends the part and the file
  told_fault : (r : List ℕ) (a b : Records) (s : List ℕ) → records_from w s ≡ record_and r b → is_sound (record_verdict t first r) ≡ false
      → Told (record_and r a) s
  unfolding part_records
  told_fault r a b s e f =
      fault_at 1 (record_verdict t first r) (λ n. go_fault (record_verdict t first r) n _ f)
      (λ n. rw e (go_fault (record_verdict t first r) n _ f))

  -- behind a sound one, the rest of the part says it
  told_on : (r : List ℕ) (a b : Records) (s : List ℕ) → records_from w s ≡ record_and r b → is_sound (record_verdict t first r) ≡ true
      → Told a (drop (first + w.size) s) → Told (record_and r a) s
  unfolding part_records
  told_on r a b s e g told = go told
    where
      size : ℕ
      size = first + w.size

      long : length r ≡ first
      long = sound_first t first r g

      here : b ≡ records_from w (drop size s)
      here = (split w s e).left ∙ ap (λ (x : ℕ). records_from w (drop (x + w.size) s)) long

      block : (n : ℕ) → part_records t n first false (record_and r a) ≡ part_records t (n + 1) first false a
      block n = go_sound (record_verdict t first r) n _ g

      file : (n : ℕ) → part_records t n first true (records_from w s) ≡ part_records t (n + 1) first true (records_from w (drop size s))
      file n = rw e (go_sound (record_verdict t first r) n _ g ∙ ap (part_records t (n + 1) first true) here)

      on : (n m : ℕ) → n + 1 + m ≡ n + suc m
      on n m = omega arith

      further : (m : ℕ) → size + m * size ≡ suc m * size
      further m = rw (suc-mul m size) (omega arith)

      go : Told a (drop size s) → Told (record_and r a) s
      go (fault_at j v x y) = fault_at (suc j) v (λ n. block n ∙ rw (on n j) at (x (n + 1))) (λ n. file n ∙ rw (on n j) at (y (n + 1)))
      go (sound_to m x y) =
          sound_to (suc m) (λ n. block n ∙ rw (on n m) at (x (n + 1)))
          (λ n. file n ∙ rw (on n m, drop-drop (m * size) size s, further m) at (y (n + 1)))

  pub told : {a b : Records} → Begins a b → (s : List ℕ) → records_from w s ≡ b → Told a s
  unfolding part_records
  told stops s e = told_none over s (λ n. refl)
  told (half {r}) s e = told_none (unended r) s (λ n. refl)
  told (same {r} {a} {b} g) s e = go (is_sound (record_verdict t first r)) refl
      (λ l. told g (drop (first + w.size) s) (sym ((split w s e).left ∙ ap (λ (x : ℕ). records_from w (drop (x + w.size) s)) l)))
    where
      go : (q : Bool) → is_sound (record_verdict t first r) ≡ q → (length r ≡ first → Told a (drop (first + w.size) s))
          → Told (record_and r a) s
      go true f ih = told_on r a b s e f (ih (sound_first t first r f))
      go false f ih = told_fault r a b s e f

-- ---- THE LAW
-- once the first record's length is known, the file's records are judged as those of its last part
known : (n first size : ℕ) → first_length (n + 1) first size ≡ first
unfolding first_length
known n first size = rw (ne_eqb (n + 1) 0 (λ e. omega arith))

as_last : (t : List ℤ) (rs : Records) (n first : ℕ) → records_verdict t (n + 1) first rs ≡ part_records t (n + 1) first true rs
unfolding records_verdict part_records
as_last t over n first = refl
as_last t (unended r) n first = refl
as_last t (record_and r rs) n first =
    rw (known n first (length r)) (ap (go_on (record_verdict t first r) (n + 1)) (as_last t rs (n + 1) first))

pub whole_as_last : (t : List ℤ) (rs : Records) → records_verdict t 0 0 rs ≡ part_records t 0 (length_of_first rs) true rs
unfolding records_verdict part_records length_of_first first_length
whole_as_last t over = refl
whole_as_last t (unended r) = refl
whole_as_last t (record_and r rs) = ap (go_on (record_verdict t (length r) r) 0) (as_last t rs 0 (length r))

-- the last part behind n records, told as the file tells it
later : ℕ → ℕ → PartVerdict
later n k = judged_as (sound_with (n + k))

shift_go : (v : Verdict) (n m : ℕ) (a b : FileVerdict) → followed n (judged_as a) (later n) ≡ judged_as b
    → followed n (judged_as (go_on v m a)) (later n) ≡ judged_as (go_on v (n + m) b)
unfolding followed go_on
shift_go sound n m a b e = e
shift_go (refused k) n m a b e = let z : n + (m + 1) ≡ n + m + 1 = omega arith in rw z
shift_go (low_byte p) n m a b e = let z : n + (m + 1) ≡ n + m + 1 = omega arith in rw z
shift_go (bad_field i x) n m a b e = let z : n + (m + 1) ≡ n + m + 1 = omega arith in rw z

shift : (t : List ℤ) (first n : ℕ) (rs : Records) (m : ℕ)
    → followed n (judged_as (part_records t m first true rs)) (later n) ≡ judged_as (part_records t (n + m) first true rs)
unfolding followed part_records later
shift t first n over m = refl
shift t first n (unended r) m = let z : n + (m + 1) ≡ n + m + 1 = omega arith in rw z
shift t first n (record_and r rs) m =
    let z : n + (m + 1) ≡ n + m + 1 = omega arith in
    shift_go (record_verdict t first r) n m _ _ (rw z at (shift t first n rs (m + 1)))

module _ (t : List ℤ) (terminator first : ℕ) (good : well_formed t ≡ true) (known-number : (numbered terminator).size ≡ 0 → ⊥) where
  abbrev w : Terminator
  w = numbered terminator

  -- a part, by the call
  called : (p : List ℕ) (last : ℕ) (q : Bool) → not (eqb last 0) ≡ q
      → part_verdict t p terminator first last ≡ judged_as (part_records t 0 first q (records_from w p))
  called p last q e =
      sym
      (part_judged t p terminator first last good refl known-number
      (ap (λ (b : Bool). part_records t 0 first b (records_from w p)) (sym e)))

  begins_here : (size : ℕ) (s : List ℕ) → Begins (records_from w (take size s)) (records_from w s)
  begins_here size s = rw (take-append-drop size s) at (cut_begins w (take size s) 0 [] (drop size s))

  by_parts : (sizes : List ℕ) (n : ℕ) (s : List ℕ)
      → in_parts t terminator first n s sizes ≡ judged_as (part_records t n first true (records_from w s))
  unfolding in_parts later followed
  by_parts [] n s =
      let z : n + 0 ≡ n = omega arith in
      ap (λ (v : PartVerdict). followed n v (later n)) (called s 1 true refl) ∙ rw z at (shift t first n (records_from w s) 0)
  by_parts (size ∷ sizes) n s = go (told t w first (begins_here size s) s refl)
      (λ m. by_parts sizes (n + m) (drop (m * (first + w.size)) s))
    where
      rest : ℕ → PartVerdict
      rest m = in_parts t terminator first (n + m) (drop (m * (first + (numbered terminator).size)) s) sizes

      go : Told t w first (records_from w (take size s)) s
          → ((m : ℕ) → rest m ≡ judged_as (part_records t (n + m) first true (records_from w (drop (m * (first + w.size)) s))))
          → followed n (part_verdict t (take size s) terminator first 0) rest ≡ judged_as (part_records t n first true (records_from w s))
      go (fault_at j v x y) ih = let z : 0 + j ≡ j = omega arith in rw (called (take size s) 0 false refl, x 0, y n, z)
      go (sound_to m x y) ih = let z : 0 + m ≡ m = omega arith in rw (called (take size s) 0 false refl, x 0, y n, z) (ih m)

-- a file cut into parts of any sizes, each beginning where the one before left off, gets its own verdict: the first fault, counted in the
-- file, or the count of all its records
pub in_parts_lem : (t : List ℤ) (d : List ℕ) (terminator : ℕ) (sizes : List ℕ) → terminator_of d ≡ numbered terminator
    → IsNumber terminator → in_parts t terminator (length_of_first (records_of d)) 0 d sizes ≡ judged_as (file_verdict t d)
unfolding in_parts followed file_verdict records_of
in_parts_lem t d terminator sizes e k = go (well_formed t) refl
  where
    first : ℕ
    first = length_of_first (records_of d)

    bad : (sizes : List ℕ) → well_formed t ≡ false → in_parts t terminator first 0 d sizes ≡ judged_as bad_table
    bad [] f = rw (part_bad t d terminator first 1 f)
    bad (size ∷ sizes) f = rw (part_bad t (take size d) terminator first 0 f)

    go : (b : Bool) → well_formed t ≡ b → in_parts t terminator first 0 d sizes ≡ judged_as (file_verdict t d)
    go true f =
        rw f
        (by_parts t terminator first f (number_some terminator k) sizes 0 d
        ∙ rw (← e) (ap judged_as (sym (whole_as_last t (records_from (terminator_of d) d)))))
    go false f = rw f (bad sizes f)

-- ---- WHERE A PART LEFT OFF: behind its count of records, each of the first one's length, no record of the part is ended
passed_to : (t : List ℤ) (w : Terminator) (first : ℕ) {rs : List (List ℕ)} → AllSound t first rs → (s : List ℕ) (rest : Records)
    → records_from w s ≡ records_before rs rest → records_from w (drop (length rs * (first + w.size)) s) ≡ rest
unfolding records_before
passed_to t w first none_yet s rest e = rw (zero-mul (first + w.size)) e
passed_to t w first (one_more {r} {rs} l v a) s rest e =
    let size = first + w.size in
    let here : records_before rs rest ≡ records_from w (drop size s) = (split w s e).left
    ∙ ap (λ (x : ℕ). records_from w (drop (x + w.size) s)) l in
    let z : size + length rs * size ≡ suc (length rs) * size = rw (suc-mul (length rs) size) (omega arith) in
    rw (drop-drop (length rs * size) size s, z) at (passed_to t w first a (drop size s) rest (sym here))

pub left_off : (t : List ℤ) (d : List ℕ) (terminator first last m : ℕ) → part_verdict t d terminator first last ≡ judged_as (sound_with m)
    → count_ended (records_from (numbered terminator) (drop (m * (first + (numbered terminator).size)) d)) ≡ 0
unfolding count_ended
left_off t d terminator first last m e = go (part_named t d terminator first last) e
  where
    ending : Terminator
    ending = numbered terminator

    go : {v : PartVerdict} → PartOutcome t d terminator first last v → v ≡ judged_as (sound_with m)
        → count_ended (records_from ending (drop (m * (first + ending.size)) d)) ≡ 0
    go (not_formed b) q = let z : ◌≡◌ {A = ℕ} 0 1 = cc in absurd (omega arith)
    go (no_number g n) q = let z : ◌≡◌ {A = ℕ} 0 1 = cc in absurd (omega arith)
    go (all_sound rs s) q =
        let l : length rs ≡ m = cc in
        rw l at (ap count_ended (passed_to t ending first s.all d over s.records))
    go (left_alone rs r z s) q =
        let l : length rs ≡ m = cc in
        rw l at (ap count_ended (passed_to t ending first s.all d (unended r) s.records))
    go (not_ended rs r n s) q = let z : ◌≡◌ {A = ℕ} 0 1 = cc in absurd (omega arith)
    go (other_length rs r rest s n) q = let z : ◌≡◌ {A = ℕ} 0 1 = cc in absurd (omega arith)
    go (record_fault rs r rest s l n) q = let z : ◌≡◌ {A = ℕ} 0 1 = cc in absurd (omega arith)

-- ---- every file that has a CR or a LF has a terminator with a number
number_at : (k l : ℕ) (a b : ℕ) (s : List ℕ) → numbered k ≡ two_bytes a b → numbered l ≡ one_byte a b
    → terminator_at a b s ≡ numbered (cond (begins_with b s) k l)
unfolding terminator_at
number_at k l a b s e f = go (begins_with b s)
  where
    go : (x : Bool) → cond x (two_bytes a b) (one_byte a b) ≡ numbered (cond x k l)
    go true = sym e
    go false = sym f

either : (x : Bool) (k l : ℕ) → IsNumber k → IsNumber l → IsNumber (cond x k l)
either true k l i j = i
either false k l i j = j

numbers : (k : ℕ) → 1 ≤ k → k ≤ 4 → IsNumber k
numbers k a b = record { least = a; most = b }

pub file_number : (d : List ℕ) → FileNumber d
unfolding terminator_of numbered
file_number [] = has_none refl
file_number (b ∷ s) = go (eqb b 13) refl (eqb b 10) refl (file_number s)
  where
    cr : IsNumber (cond (begins_with 10 s) 1 3)
    cr = either (begins_with 10 s) 1 3 (numbers 1 (omega arith) (omega arith)) (numbers 3 (omega arith) (omega arith))

    lf : IsNumber (cond (begins_with 13 s) 2 4)
    lf = either (begins_with 13 s) 2 4 (numbers 2 (omega arith) (omega arith)) (numbers 4 (omega arith) (omega arith))

    go : (x : Bool) → eqb b 13 ≡ x → (y : Bool) → eqb b 10 ≡ y → FileNumber s → FileNumber (b ∷ s)
    go true e y f n = has _ cr (rw e (number_at 1 3 13 10 s refl refl))
    go false e true f n = has _ lf (rw (e, f) (number_at 2 4 10 13 s refl refl))
    go false e false f (has_none z) = has_none (rw (e, f) z)
    go false e false f (has k i z) = has k i (rw (e, f) z)
