-- In the blocks of every text each heading has a rank from 1 to 6.
use Rattle.std.proofs.Common.{◌≡◌, ℕ, true, ◌&&◌, leb, List, [], ◌∷◌, Option, None, Some, refl, arith}
use Rattle.std.specs.Prelude.{IfSome}
use Rattle.std.proofs.lemmas.Bool.{cond_both, and_parts}
use Rattle.std.proofs.lemmas.Bool.Decides.{nat_tests}
use Rattle.markdown_options.specs.declared.configuration.Constructs.{Constructs}
use Rattle.markdown_options.specs.declared.beside.Kind.{Kind}
use Rattle.definition_text.specs.Columns.{Rest, bare, bytes_of}
use Rattle.definition_text.specs.Content.{content_of}
use Rattle.definition_text.specs.Indents.{small_indent}
use Rattle.definition_text.specs.Lines.{TextLine, lines}
use Rattle.definition_text.specs.Runs.{run, after_run, is_run}
use Rattle.definition_inline.specs.Definition.{definition_at}
use Rattle.definition_block.specs.Containers.{continues, starts}
use Rattle.definition_block.specs.CodeFenced.{fence_start}
use Rattle.definition_block.specs.MathFlow.{math_start}
use Rattle.definition_block.specs.HeadingAtx.{Atx, begins_apart, atx_of, heading_atx}
use Rattle.definition_block.specs.HeadingSetext.{underline, underline_of}
use Rattle.definition_block.specs.Tree.{LeafBlock, Block, Blocks, blocks}
use Rattle.definition_block.proofs.BlockReads.{Property, LeafBlockGood, BlockGood, BlocksGood, TextLineGood, AtxGood, RankGood, Reads, blocks_good}
use Rattle.laws_safe_page.proofs.Each.{Each, WhereSome}
use Rattle.laws_safe_page.proofs.BlockAdds.{is_rank}

-- headings have the ranks 1 to 6
abbrev pub ranks : Property
ranks =
    record {
      line = λ line. Unit {0};
      ending = λ ending. Unit {0};
      heading = λ rank ls. is_rank rank ≡ true;
      info = λ cs. Unit {0};
      leads = λ destination title. Unit {0};
      rank = λ rank. is_rank rank ≡ true;
      rest = λ rest. Unit {0};
    }

-- a heading has such a rank
abbrev pub IsRankedLeaf : LeafBlock → Type 0
IsRankedLeaf leaf = LeafBlockGood ranks leaf

-- each heading has such a rank, at any depth
abbrev pub IsRanked : Block → Type 0
IsRanked b = BlockGood ranks b

abbrev pub AreRanked : Blocks → Type 0
AreRanked bs = BlocksGood ranks bs

-- ---- ranks

abbrev AtxIsRanked : Option Atx → Type 0
AtxIsRanked o = AtxGood ranks o

in_range : (rank : ℕ) → (leb 1 rank && leb rank 6) ≡ true → is_rank rank ≡ true
in_range rank h = grind (arith, nat_tests)

atx_of_rank : (text : List ℕ) → AtxIsRanked (atx_of text)
atx_of_rank text =
    let rank = run 35 text in
    let ranked = leb 1 rank && leb rank 6 in
    let apart = begins_apart (after_run 35 text) in
    cond_both (ranked && apart) _ None AtxIsRanked (λ e. (in_range rank (and_parts ranked apart e).0, tt)) (λ _. tt)

atx_is_ranked : (on : Constructs) (rest : Rest) → AtxIsRanked (heading_atx on rest)
atx_is_ranked on rest =
    let text = bytes_of (bare rest) in
    cond_both (on.heading_atx && small_indent on rest) (atx_of text) None AtxIsRanked (λ _. atx_of_rank text) (λ _. tt)

abbrev IsUnderline : Option ℕ → Type 0
IsUnderline o = RankGood ranks o

underline_is_ranked : (on : Constructs) (rest : Rest) → IsUnderline (underline on rest)
underline_is_ranked on rest =
    let text = bytes_of (bare rest) in
    cond_both (on.heading_setext && small_indent on rest) (underline_of text) None IsUnderline
    (λ _. cond_both (is_run 1 61 text) _ _ IsUnderline (λ _. refl) (λ _. cond_both (is_run 1 45 text) _ _ IsUnderline (λ _. refl) (λ _. tt)))
    (λ _. tt)

-- ---- the lines of a text

anything : {A : Type 0} (o : Option A) → WhereSome (λ x. Unit {0}) o
anything None = tt
anything (Some x) = tt

any_rest : {A : Type 0} (o : Option A) → IfSome o (λ x. Unit {0})
any_rest None = tt
any_rest (Some x) = tt

each_text_line : (ls : List TextLine) → Each (λ line. TextLineGood ranks line) ls
each_text_line [] = tt
each_text_line (line ∷ ls) = ((tt, tt), each_text_line ls)

module _ (on : Constructs) where
  reads : Reads ranks on
  reads =
      record {
        no_ending = tt;
        ends = λ line h. tt;
        unended = λ line h. tt;
        dropped = λ n rest h. tt;
        taken_line = λ rest beside h f. tt;
        ranked = λ rank ls h p. h;
        defines = λ ls p. anything (definition_at (content_of ls));
        atx = λ rest h. atx_is_ranked on rest;
        underlines = λ rest. underline_is_ranked on rest;
        fences = λ rest h. anything (fence_start on rest);
        math = λ rest h. anything (math_start on rest);
        enters = λ text rest h. any_rest (starts on text rest);
        stays = λ c blank rest h. any_rest (continues on c blank rest);
      }

  pub blocks_are_ranked : (kind : Kind) (text : List ℕ) → AreRanked (blocks on kind text)
  blocks_are_ranked kind text = blocks_good ranks on reads kind text (each_text_line (lines text))
