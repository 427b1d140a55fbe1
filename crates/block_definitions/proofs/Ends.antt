-- Where a definition that was read off a content ends.
use Rattle.std.proofs.Common.{◌≡◌, ℕ, ◌<◌, ◌≤◌, ◌-◌, suc, List, ◌++◌, Option, None, Some, length, take, drop, refl, sym, ap, ◌∙◌, arith, subst}
use Rattle.block_definitions.proofs.Prelude.{AreBytes, AreLines, BlockLine, code_byte, content_codes, content_of, content_text, definition_at, length-append}
use Rattle.block_definitions.proofs.Prelude.{map, none-some, own_lines, the_same, total}
use Rattle.std.specs.Option.{option_map}
use Rattle.std.proofs.lemmas.List.{drop-append-le, drop_all}
use Rattle.definition_block.specs.Definitions.{lines_before}
use Rattle.definition_inline.specs.Definition.{Definition}
use Rattle.block_rows.proofs.DefinitionLines.{definition_cuts}
use Rattle.definition_inline.proofs.LinkRenaming.{renamed_definition, definition_renamed, code_byte-renames}
use Rattle.block_definitions.proofs.Codes.{same_bytes, later_bytes}
use Rattle.block_definitions.proofs.Contents.{content_is}
use Rattle.block_definitions.proofs.Splits.{split_at}

-- a tab's columns make no difference
read_spaced : (content : List ℕ) (ls : List BlockLine) → AreLines ls → content ≡ content_text ls
    → definition_at (content_codes content) ≡ option_map (renamed_definition code_byte) (definition_at (content_of (own_lines ls)))
read_spaced content ls h is =
    ap definition_at (ap content_codes is ∙ content_is ls h) ∙ definition_renamed code_byte code_byte-renames (content_of (own_lines ls))

pub not_found : (content : List ℕ) (ls : List BlockLine) → AreLines ls → content ≡ content_text ls → definition_at (content_codes content) ≡ None
    → definition_at (content_of (own_lines ls)) ≡ None
not_found content ls h is none = go (definition_at (content_of (own_lines ls))) (sym none ∙ read_spaced content ls h is)
  where
    go : (o : Option Definition) → None ≡ option_map (renamed_definition code_byte) o → o ≡ None
    go None e = refl
    go (Some d) e = absurd (none-some (renamed_definition code_byte d) e)

found : (content : List ℕ) (ls : List BlockLine) → AreLines ls → content ≡ content_text ls → (read : Definition)
    → definition_at (content_codes content) ≡ Some read
    → (d : Definition) × (definition_at (content_of (own_lines ls)) ≡ Some d) × (renamed_definition code_byte d ≡ read)
found content ls h is read some = go (definition_at (content_of (own_lines ls))) refl (sym some ∙ read_spaced content ls h is)
  where
    go : (o : Option Definition) → definition_at (content_of (own_lines ls)) ≡ o → Some read ≡ option_map (renamed_definition code_byte) o
        → (d : Definition) × (definition_at (content_of (own_lines ls)) ≡ Some d) × (renamed_definition code_byte d ≡ read)
    go None same e = absurd (none-some read (sym e))
    go (Some d) same e = (d, same, sym (the_same read (renamed_definition code_byte d) e))

-- the lines of a definition, and the bytes of their content, whose rest is given
pub record Ended (content rest : List ℕ) (ls : List BlockLine) : Type 0 where
  pub read : Definition
  pub before : ℕ
  pub is_found : definition_at (content_of (own_lines ls)) ≡ Some read
  pub count_is : suc before ≡ lines_before read.rest ls
  pub within : before < length ls
  pub clean : AreLines (drop (suc before) ls)
  pub rest_is : rest ≡ content_text (drop (suc before) ls)
  pub more : total (take before ls) < length content - length rest
  pub most : length content - length rest ≤ total (take (suc before) ls)

pub ended : (content rest : List ℕ) (ls : List BlockLine) → AreLines ls → content ≡ content_text ls → AreBytes content → AreBytes rest
    → (read : Definition) → definition_at (content_codes content) ≡ Some read → content_codes rest ≡ read.rest → Ended content rest ls
ended content rest ls h is bytes rest_bytes read some after =
    let here = found content ls h is read some in
    let d = here.0 in
    let n = lines_before d.rest ls in
    let cuts = definition_cuts ls d h here.1 in
    let m = n - 1 in
    let next : suc m ≡ n = let k = cuts.some in omega (arith, k) in
    let within : m < length ls = let k = cuts.some in let l = cuts.within in omega (arith, k, l) in
    let clean = subst (λ x. AreLines (drop x ls)) (sym next) cuts.left in
    let split = split_at m ls h within in
    let left = content_text (drop (suc m) ls) in
    let whole : content ≡ split.front ++ left = is ∙ split.same in
    let left_bytes : AreBytes left =
    subst AreBytes (ap (drop (length split.front)) whole ∙ drop-append (length split.front) split.front left refl)
    (later_bytes (length split.front) content bytes) in
    let after_is : content_of (own_lines (drop (suc m) ls)) ≡ d.rest = ap (λ x. content_of (own_lines (drop x ls))) next ∙ cuts.after in
    let same : rest ≡ left =
    same_bytes rest left rest_bytes left_bytes (after ∙ sym (ap (λ x. x.rest) here.2)
    ∙ sym (content_is (drop (suc m) ls) clean ∙ ap (map code_byte) after_is)) in
    let long = ap length whole ∙ length-append split.front left in
    let short = ap length same in
    let bytes_are : length content - length rest ≡ length split.front = omega (arith, long, short) in
    record {
      read = d;
      before = m;
      is_found = here.1;
      count_is = next;
      within = within;
      clean = clean;
      rest_is = same;
      more = let k = split.more in omega (arith, k, bytes_are);
      most = let k = split.most in omega (arith, k, bytes_are);
    }
  where
    drop-append : (n : ℕ) (xs ys : List ℕ) → n ≡ length xs → drop n (xs ++ ys) ≡ ys
    drop-append n xs ys e = drop-append-le n xs ys (omega (arith, e)) ∙ ap (λ x. x ++ ys) (drop_all n xs (omega (arith, e)))
