-- THE OUTPUT of writing a clean definition: kept by a refusal, else the clean text with what stood behind it; and that text reads back.
use Rattle.std.specs.Prelude.{◌≡◌, refl, List, [], ◌∷◌, ◌++◌, ℕ, ◌+◌, ◌≤◌, ℤ, length, take}
use Rattle.std.proofs.Common.{◌∙◌, le-ltb}
use Rattle.std.proofs.Math.Path.{ap}
use Rattle.std.proofs.Math.ListN.{drop}
use Rattle.cells.specs.rule.Cell.{pasted}
use Rattle.survey.specs.rule.Survey.{Survey}
use Rattle.survey.specs.rule.Table.{table_of}
use Rattle.bridge.specs.Lowest.{never}
use Rattle.definition.specs.declared.Answer.{Answer}
use Rattle.definition.specs.rule.Definition.{sss_table_after, SssRead}
use Rattle.clean_text.specs.rule.Clean.{clean_of}
use Rattle.clean_laws.specs.rule.Reads.{Reads}
use Rattle.clean_laws.specs.Reads.{CleanReads, clean_reads}
use Rattle.clean_laws.specs.Called.{texts_equal, clean_called}
use Rattle.clean.specs.declared.Written.{Written}
use Rattle.clean.specs.declared.Written.TheVariants.{Done, Refused}
use Rattle.clean.specs.rule.Written.{Writing, Text, clean_fitted, writing_of, clean_written, out_after, DefinitionWritten}
use Rattle.clean.specs.rule.Written as rule
use Rattle.write_laws.specs.rule.Exactly.{Begins, WriteOutcome, unread, other_table, too_large, short_room, all_written}
use Rattle.write_laws.specs.rule.Output.{CleanStands, SaysSame}
use Rattle.write_laws.specs.Exactly.{write_named, written_fitted}

take_front : {A : Type 0} (s u : List A) → take (length s) (s ++ u) ≡ s
take_front [] u = refl
take_front {A} (b ∷ s) u = ap (λ (l : List A). b ∷ l) (take_front s u)

drop_front : {A : Type 0} (s u : List A) → drop (length s) (s ++ u) ≡ u
drop_front [] u = refl
drop_front (b ∷ s) u = drop_front s u

fitted_text : (n : ℕ) (s : List ℕ) → length s ≤ 1048576 → length s ≤ n → clean_fitted n s ≡ Text s
unfolding clean_fitted
fitted_text n s h k = rw (le-ltb 1048576 (length s) h, le-ltb n (length s) k)

-- ---- a refusal keeps the output
pub write_kept : {d : List ℕ} {t : List ℤ} {out out' : List ℕ} {number place : ℕ} → DefinitionWritten d t out out' (Refused number place)
    → out' ≡ out
unfolding clean_written out_after
write_kept {d} {t} {out} {out'} {number} {place} a = by (writing_of d t (length out)) a.says a.leaves where
  by : (w : Writing) → Refused number place ≡ clean_written w → out' ≡ out_after w out → out' ≡ out
  by (Text s) e q = never cc
  by (rule.Refusal k p) e q = q

-- ---- else the clean text stands in it, and behind it what stood there
module _ {d : List ℕ} {t : List ℤ} {out out' : List ℕ} where
  stands : {s : Survey} → Reads d s → Begins s t → length (clean_of d s) ≤ 1048576 → length (clean_of d s) ≤ length out
      → out' ≡ out_after (writing_of d t (length out)) out → CleanStands d t out out' (length (clean_of d s))
  unfolding out_after
  stands {s} r h k l q =
      let c = clean_of d s in
      let e : out' ≡ c ++ drop (length c) out = q ∙ rw (written_fitted d t (length out) r h, fitted_text (length out) c k l) in
      record {
        survey = s;
        reads = r;
        own = h;
        long = refl;
        short = k;
        fits = l;
        text = ap (take (length c)) e ∙ take_front c (drop (length c) out);
        behind = ap (drop (length c)) e ∙ drop_front c (drop (length c) out);
      }

  pub write_stands : {n : ℕ} → DefinitionWritten d t out out' (Done n) → CleanStands d t out out' n
  write_stands {n} a = by (write_named d t (length out)) a.says where
    by : {w : Written} → WriteOutcome d t (length out) w → Done n ≡ w → CleanStands d t out out' n
    by (unread u) e = never cc
    by (other_table r h) e = never cc
    by (too_large r h k) e = never cc
    by (short_room r h k l) e = never cc
    by (all_written {s = s} r h k l) e =
        let i : length (clean_of d s) ≡ n = cc in
        rw i at (stands r h k l a.leaves)

-- ---- the text is read, and written again
-- what reading leaves begins with the table that is read
own_table : {c : List ℕ} {s : Survey} {u u' : List ℤ} {a : Answer} → Reads c s → length (table_of s.variables) ≤ length u
    → SssRead c u u' a → Begins s u'
unfolding sss_table_after pasted
own_table {s = s} {u = u} r h p =
    let x = table_of s.variables in
    let e = rw (r.built (length u) h) at p.leaves in
    rw e (take_front x (drop (0 + length x) u))

clean_again : {d : List ℕ} {s : Survey} (c : CleanReads d s) {u u' : List ℤ} {a : Answer} {out out' : List ℕ} {w : Written}
    → length (clean_of d s) ≤ 1048576 → length (table_of s.variables) ≤ length u → SssRead (clean_of d s) u u' a
    → length (clean_of d s) ≤ length out → DefinitionWritten (clean_of d s) u' out out' w
    → (w ≡ Done (length (clean_of d s))) × (out' ≡ clean_of d s ++ drop (length (clean_of d s)) out)
unfolding clean_written out_after
clean_again {d} {s} c {u' = u'} {out = out} short h p room q =
    let o = own_table c.reads (rw c.long h) p in
    let e : writing_of (clean_of d s) u' (length out) ≡ Text (clean_of d s) =
    written_fitted (clean_of d s) u' (length out) c.reads o
    ∙ ap (clean_fitted (length out)) c.again ∙ fitted_text (length out) (clean_of d s) short room in
    (q.says ∙ rw e, q.leaves ∙ rw e)

says_same : {d : List ℕ} {s : Survey} → Reads d s → length (clean_of d s) ≤ 1048576 → SaysSame d (clean_of d s) s (length (clean_of d s))
says_same {d} {s} r h =
    let c = clean_reads d s r h in
    record {
      survey = c.survey;
      reads = c.reads;
      called = λ {u} {u₁} {u₂} {a₁} {a₂} room p q. clean_called r c u room p q;
      heading_texts = c.heading_texts;
      texts = texts_equal r c;
      again = λ {u} {u'} {a} {out} {out'} {w} room p k q. clean_again c h room p k q;
    }

says_of : {d c : List ℕ} {s : Survey} {n : ℕ} → c ≡ clean_of d s → n ≡ length (clean_of d s) → Reads d s → n ≤ 1048576 → SaysSame d c s n
says_of e i r h = rw (e, i) (says_same r (rw i at h))

pub write_reads : {d : List ℕ} {t : List ℤ} {out out' : List ℕ} {n : ℕ} (w : CleanStands d t out out' n)
    → SaysSame d (take n out') w.survey n
write_reads w = says_of w.text w.long w.reads w.short
