-- Raw text in codes and in bytes.
use Rattle.std.proofs.Common.{◌≡◌, ◌<◌, ◌≤◌, ◌-◌, ℕ, false, List, ◌++◌, Option, None, Some, length, take, drop, replicate, refl, sym, ap, ◌∙◌, subst, arith}
use Rattle.std.specs.Prelude.{◌==◌}
use Rattle.std.specs.Option.{option_map}
use Rattle.std.proofs.Math.Seq.{drop-append_seam}
use Rattle.std.proofs.lemmas.List.{length-append, length-replicate}
use Rattle.definition_text.specs.Content.{content_codes, text_before}
use Rattle.definition_text.specs.InlineCode.{InlineCode, codes_of}
use Rattle.definition_text.specs.Runs.{run, after_run}
use Rattle.definition_text.proofs.Each.{WhereSome}
use Rattle.definition_inline.specs.CodeText.{code_text, run_of}
use Rattle.inline_constructs.proofs.RawTextLemmas as bytes
use Rattle.inline_constructs.proofs.RawTextLemmas.{run_of_codes, run_here, run_there, cut_before_run}
use Rattle.inline_leaves.proofs.Codes.{prefix_codes, after_codes}
use Rattle.parse_written.specs.Leaves.{IsRaw}
use Rattle.parse_written.specs.Written.{AreCodes}
use Rattle.parse_written.proofs.Codes.{codes_are}
use Rattle.parse_written.proofs.Forms.{IsNextRun, next_run, text_of_parts}
use Rattle.parse_written.specs.Bytes.{AreBytesAt, IsRawInBytes}
use Rattle.parse_written.specs.RowLaws.{RawBytesLaw}

module _ (m : ℕ) (is : bytes.IsRaw m) where
  -- after a run that is whole
  after_whole : (size : ℕ) (xs : List ℕ) (from to : List InlineCode) → AreBytesAt xs from → run m xs ≡ size → AreCodes (replicate size m) from to
      → AreBytesAt (drop size xs) to
  after_whole size xs from to at whole codes =
      let marks = replicate size m in
      let count : length marks ≡ size = length-replicate size m in
      let in_codes : run m (content_codes xs) ≡ size = prefix_codes (λ c. c == m) is.return is.both xs ∙ whole in
      sym (drop-append_seam marks (codes_of to)) ∙ ap (drop (length marks)) (sym (codes_are marks from to codes) ∙ at)
      ∙ ap (λ n. drop n (content_codes xs)) (count ∙ sym in_codes) ∙ after_codes (λ c. c == m) is.return is.both xs
      ∙ ap (λ n. content_codes (drop n xs)) whole

  record FoundEnd (n : ℕ) (ys codes : List ℕ) : Type 0 where
    end : List ℕ
    next : run_of m n false ys ≡ Some end
    same : content_codes end ≡ codes
    here : IsNextRun m n ys end

  found_end : (n : ℕ) (ys codes : List ℕ) (o : Option (List ℕ)) → run_of m n false ys ≡ o → option_map content_codes o ≡ Some codes
      → WhereSome (IsNextRun m n ys) o → FoundEnd n ys codes
  found_end n ys codes None e same p = absurd cc
  found_end n ys codes (Some end) e same p = record { end = end; next = e; same = let one : content_codes end ≡ codes = cc in one; here = p }

  raw_bytes : (text xs : List ℕ) (from to : List InlineCode) → IsRaw m text from to → AreBytesAt xs from → IsRawInBytes m text xs to
  raw_bytes text xs from to p at =
      let n = run m xs in
      let ys = after_run m xs in
      let size : n ≡ p.size = sym (prefix_codes (λ c. c == m) is.return is.both xs) ∙ ap (run m) (sym at) ∙ p.whole in
      let some : 0 < n = omega (arith, p.some, size) in
      let inside : AreBytesAt ys p.inside =
      after_whole n xs from p.inside at refl (subst (λ k. AreCodes (replicate k m) from p.inside) (sym size) p.opening) in
      let found =
      found_end n ys (codes_of p.end) (run_of m n false ys) refl
      (sym (run_of_codes m is n false ys some) ∙ ap (run_of m n false) (sym inside) ∙ ap (λ k. run_of m k false (codes_of p.inside)) size ∙ p.next)
      (next_run m n false ys) in
      let end = found.end in
      let front = found.here.front in
      let place : length ys - length end ≡ length front = omega (arith, ap length found.here.parts, length-append front end) in
      let left : drop (length front) ys ≡ end = ap (drop (length front)) found.here.parts ∙ drop-append_seam front end in
      let within : length front ≤ length ys = omega (arith, ap length found.here.parts, length-append front end) in
      let there =
      run_there m ys (length front) n within (run_here m (drop (length front) ys) n (sym found.here.size ∙ ap (run m) (sym left))) in
      let cut = cut_before_run m is ys (length front) n there some in
      let parts : content_codes ys ≡ content_codes (take (length front) ys) ++ content_codes end =
      cut ∙ ap (λ zs. content_codes (take (length front) ys) ++ content_codes zs) left in
      let before : text_before (codes_of p.inside) (codes_of p.end) ≡ content_codes (take (length front) ys) =
      ap (λ c. text_before c (codes_of p.end)) inside ∙ ap (text_before (content_codes ys)) (sym found.same)
      ∙ text_of_parts (content_codes ys) (content_codes (take (length front) ys)) (content_codes end) parts in
      record {
        some = some;
        end = end;
        next = found.next;
        read = ap (λ k. code_text (content_codes (take k ys))) place ∙ ap code_text (sym before) ∙ p.read;
        left = after_whole n end p.end to (sym found.same) found.here.size (subst (λ k. AreCodes (replicate k m) p.end to) (sym size) p.closing);
      }

backtick_runs : bytes.IsRaw 96
backtick_runs = record { return = refl; both = refl; feed = λ e. omega arith; ascii = omega arith }

dollar_runs : bytes.IsRaw 36
dollar_runs = record { return = refl; both = refl; feed = λ e. omega arith; ascii = omega arith }

pub raw_bytes_law : RawBytesLaw
raw_bytes_law = (raw_bytes 96 backtick_runs, raw_bytes 36 dollar_runs)
