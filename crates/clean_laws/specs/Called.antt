-- What the reading back means to callers: texts as the call that decodes gives them, by the places and lengths of the two tables; and a
-- clean text keeps all that a definition says.
use Rattle.std.specs.Prelude.{◌↔◌, ◌⊎◌, ◌≡◌, refl, false, cond, List, map, ℕ, ◌+◌, ◌-◌, ◌≤◌, ◌<◌, ltb, ℤ, pos, length, drop}
use Rattle.std.proofs.Common.{inl, inr, sym, ap, ◌∙◌, arith, get_or-append-add, get_or-drop, lt-ltb, le-ltb}
use Rattle.std.proofs.Math.ListN.{get_or-append}
use Rattle.below.specs.Below.{lt_or_le}
use Rattle.cells.specs.rule.Cell.{cell, pasted}
use Rattle.rows.specs.rule.Cells.{header_cells}
use Rattle.survey.specs.rule.Survey.{Line, Variable, Survey}
use Rattle.survey.specs.rule.Table.{lines_all, header_for, table_of}
use Rattle.definition.specs.declared.Answer.{Answer}
use Rattle.definition.specs.rule.Definition.{Refusal, sss_outcome, sss_answer, sss_table_after, SssRead}
use Rattle.text_laws.specs.Stand.{Each, nil, more}
use Rattle.text_laws.specs.Decoded.{Decodes, VariableDecodes, texts_decode}
use Rattle.clean_text.specs.rule.Clean.{clean_of}
use Rattle.clean_laws.specs.rule.Texts.{text_at, decoded_text, decoded_texts}
use Rattle.clean_laws.specs.rule.Reads.{text_signs, head_texts, Reads}
use Rattle.clean_laws.specs.Masked.{masked}
use Rattle.clean_laws.specs.Reads.{variable_texts, CleanReads, clean_reads}

-- ---- as decoded by the places and lengths of the tables
lines_decoded : {d : List ℕ} {l : List Line} → Each (λ (s : Line). Decodes d s.text) l
    → map (λ l. decoded_text d l.text) l ≡ map (λ l. text_signs d l.text) l
lines_decoded nil = refl
lines_decoded (more h r) = rw (h.decodes, lines_decoded r)

all_decoded : {d : List ℕ} {l : List Variable} → Each (VariableDecodes d) l → map (decoded_texts d) l ≡ map (variable_texts d) l
unfolding decoded_texts variable_texts
all_decoded nil = refl
all_decoded (more h r) = rw (h.name.decodes, h.label.decodes, lines_decoded h.lines, all_decoded r)

reads_decoded : {d : List ℕ} {s : Survey} → Reads d s → map (decoded_texts d) s.variables ≡ map (variable_texts d) s.variables
reads_decoded {d} {s} r =
    let n = length (table_of s.variables) in
    all_decoded (texts_decode d n s.variables (r.built n (omega arith)))

-- EQUAL DECODED TEXTS, by the places and lengths that the tables hold
pub texts_equal : {d : List ℕ} {s : Survey} → Reads d s → (c : CleanReads d s)
    → map (decoded_texts (clean_of d s)) c.survey.variables ≡ map (decoded_texts d) s.variables
texts_equal r c = reads_decoded c.reads ∙ c.variable_texts_lem ∙ sym (reads_decoded r)

-- ---- NOTHING IS LOST: definitions with one clean text have one table, apart from text places and lengths, and equal decoded texts
pub record SayAlike (d e : List ℕ) (s t : Survey) : Type 0 where
  pub table : masked (table_of s.variables) ≡ masked (table_of t.variables)
  pub heading_texts : head_texts d s.heading ≡ head_texts e t.heading
  pub variable_texts_lem : map (variable_texts d) s.variables ≡ map (variable_texts e) t.variables
  pub standard : s.heading.standard ≡ t.heading.standard
  pub letter : s.heading.letter ≡ t.heading.letter

one_survey : {d : List ℕ} {s t : Survey} → Reads d s → Reads d t → s ≡ t
one_survey r q = let e = sym r.says ∙ q.says in cc

pub clean_tells : {d e : List ℕ} {s t : Survey} → Reads d s → Reads e t → length (clean_of d s) ≤ 1048576 → clean_of d s ≡ clean_of e t
    → SayAlike d e s t
clean_tells {d} {e} {s} {t} r q h k =
    let a = clean_reads d s r h in
    let b = clean_reads e t q (rw k at h) in
    let o : a.survey ≡ b.survey = one_survey a.reads (rw (sym k) at b.reads) in
    record {
      table = sym a.table ∙ ap (λ (x : Survey). masked (table_of x.variables)) o ∙ b.table;
      heading_texts = sym a.heading_texts ∙ rw (k, o) b.heading_texts;
      variable_texts_lem = sym a.variable_texts_lem ∙ rw (k, o) b.variable_texts_lem;
      standard = sym a.standard ∙ ap (λ (x : Survey). x.heading.standard) o ∙ b.standard;
      letter = sym a.letter ∙ ap (λ (x : Survey). x.heading.letter) o ∙ b.letter;
    }

-- ---- THE CALL THAT READS, of d and of its clean text into the same lent table with room enough: the same answer, and tables that agree in
-- every number but text places and lengths
-- a table's counts are its numbers 1 and 2
counts_told : (l : List Variable) → (cell (table_of l) 1 ≡ pos (length l)) × (cell (table_of l) 2 ≡ pos (lines_all l))
unfolding table_of header_for header_cells
counts_told l = (refl, refl)

head_apart : (v : ℕ) → (text_at v 1 ≡ false) × (text_at v 2 ≡ false)
unfolding text_at
head_apart v = (refl, refl)

-- numbers laid over the start of a table
pasted_cell : (t s : List ℤ) (k : ℕ) → (k < length s) ⊎ (length s ≤ k)
    → cell (pasted t 0 s) k ≡ cond (ltb k (length s)) (cell s k) (cell t k)
unfolding pasted
pasted_cell t s k (inl h) =
    rw (lt-ltb k (length s) h) (get_or-append s (drop (0 + length s) t) (pos 0) k h)
pasted_cell t s k (inr h) =
    let n = length s in
    let e : n + (k - n) ≡ k = omega arith in
    let f : 0 + n ≡ n = omega arith in
    rw (le-ltb k (length s) h, f)
    (rw e at (get_or-append-add s (drop n t) (k - n) (pos 0) ∙ get_or-drop n t (k - n) (pos 0)))

module _ {d : List ℕ} {s : Survey} (r : Reads d s) (c : CleanReads d s) (t : List ℤ)
    (room : length (table_of s.variables) ≤ length t) where
  abbrev l : List Variable
  l = s.variables

  abbrev l' : List Variable
  l' = c.survey.variables

  counts_same : (length l' ≡ length l) × (lines_all l' ≡ lines_all l)
  counts_same =
      let a = sym (counts_told l').0 ∙ c.cells 1 (head_apart (length l)).0 ∙ (counts_told l).0 in
      let b = sym (counts_told l').1 ∙ c.cells 2 (head_apart (length l)).1 ∙ (counts_told l).1 in
      (cc, cc)

  laid_same : (k : ℕ) → text_at (length l) k ≡ false → cell (pasted t 0 (table_of l')) k ≡ cell (pasted t 0 (table_of l)) k
  laid_same k e =
      pasted_cell t (table_of l') k (lt_or_le k (length (table_of l')))
      ∙ rw (c.long, c.cells k e) (sym (pasted_cell t (table_of l) k (lt_or_le k (length (table_of l)))))

  pub clean_called : {t₁ t₂ : List ℤ} {a₁ a₂ : Answer} → SssRead d t t₁ a₁ → SssRead (clean_of d s) t t₂ a₂
      → (a₂ ≡ a₁) × ((k : ℕ) → text_at (length l) k ≡ false → cell t₂ k ≡ cell t₁ k)
  unfolding sss_answer sss_table_after
  clean_called p q =
      let e = r.built (length t) room in
      let f = c.reads.built (length t) (rw c.long room) in
      let a₁ = rw e at p.says in
      let a₂ = rw f at q.says in
      let t₁ = rw e at p.leaves in
      let t₂ = rw f at q.leaves in
      (a₂ ∙ rw (counts_same.0, counts_same.1) (sym a₁), λ k h. rw (t₁, t₂) (laid_same k h))

-- REFUSED BY NONE OF 1 TO 9: a definition that is read is refused with 10 alone, where the lent table is too short
pub reads_refused : {d : List ℕ} {s : Survey} → Reads d s → (n number place : ℕ) → sss_outcome d n ≡ Refusal number place
    → (number ≡ 10) × (place ≡ 0)
reads_refused {d} {s} r n number place e = by (lt_or_le n (length (table_of s.variables))) where
  by : (n < length (table_of s.variables)) ⊎ (length (table_of s.variables) ≤ n) → (number ≡ 10) × (place ≡ 0)
  by (inl h) = let f = sym e ∙ r.no_room n h in (cc, cc)
  by (inr h) = let f = sym e ∙ r.built n h in let z : ◌≡◌ {A = ℕ} 0 1 = cc in absurd (omega arith)

-- ---- ITS OWN CLEAN TEXT: a definition is exactly where it is the clean text of one
pub data CleanOfSome (d : List ℕ) : Type 0 where
  clean_of_lem : {e : List ℕ} {t : Survey} → Reads e t → clean_of e t ≡ d → CleanOfSome d

pub own_exactly : {d : List ℕ} {s : Survey} → length d ≤ 1048576 → Reads d s → (clean_of d s ≡ d) ↔ CleanOfSome d
own_exactly {d} {s} h r = (clean_of_lem r, by) where
  by : CleanOfSome d → clean_of d s ≡ d
  by (clean_of_lem {e = e} {t = t} q k) =
      let c = clean_reads e t q (rw k h) in
      let o : c.survey ≡ s = one_survey (rw k at c.reads) r in
      let a : clean_of d c.survey ≡ d = rw k at c.again in
      rw o at a
