-- Where task list items are off, no paragraph has a check.
use Rattle.std.proofs.Common.{◌≡◌, ℕ, Bool, true, false, cond, ◌&&◌, List, Option, None, refl, sym, ap, subst, ◌∙◌}
use Rattle.std.proofs.lemmas.Bool.{false≢true}
use Rattle.markdown_options.specs.declared.configuration.Constructs.{Constructs}
use Rattle.definition_text.specs.BlockLines.{BlockLine}
use Rattle.definition_text.specs.InlineCode.{codes_of}
use Rattle.definition_text.specs.Lines.{without_mark, kind_before_text}
use Rattle.definition_inline.specs.Inline.{TaskCheck, Inline, Leaf}
use Rattle.definition_inline.specs.EachPart.{EachOf}
use Rattle.definition_inline.specs.GfmTaskListItem.{check_of, check_at}
use Rattle.definition_inline.specs.Scan.{without_indent}
use Rattle.definition_inline.proofs.EachPart.{each_gives}
use Rattle.definition_inline.proofs.MayStand.{Stands, may_stand}
use Rattle.definition_block.specs.Tree as tree
use Rattle.definition_block.specs.Tree.{blocks}
use Rattle.definition_block.specs.Lists.{group_items}
use Rattle.definition_page.specs.Read.{Reading, Standing, on_page, context_of, text_content, checked_text, read_paragraph}
use Rattle.definition_page.specs.Read.{read_leaf}
use Rattle.definition_page.proofs.PageReads.{Reads, blocks_read}
use Rattle.laws_options.specs.GfmTaskListItem.{IsNoCheck, LeafHasNoCheck, HaveNoChecks, TaskListItemOffLaw}

-- no content has a check
no_check_stands : (on : Constructs) (i : Inline) → Stands on i → IsNoCheck i
no_check_stands on (Leaf (TaskCheck done)) e = absurd (false≢true e)
no_check_stands on i e = tt

no_check_by : (first : Bool) (found : Option Bool) → cond (first && false) found None ≡ None
no_check_by true found = refl
no_check_by false found = refl

module _ (r : Reading) (off : r.parse.constructs.gfm_task_list_item ≡ false) where
  pub no_check : (first : Bool) (codes : List ℕ) → check_at r.parse.constructs first codes ≡ None
  no_check first codes = ap (λ on. cond (first && on) (check_of codes) None) off ∙ no_check_by first (check_of codes)

  unchecked_paragraph : (first : Bool) (ls : List BlockLine) → EachOf IsNoCheck (read_paragraph r first ls)
  unchecked_paragraph first ls =
      let on = r.parse.constructs in
      let content = without_indent (text_content r ls) in
      subst (λ found. EachOf IsNoCheck (checked_text r content found)) (sym (no_check first (codes_of content)))
      (each_gives (Stands on) IsNoCheck (no_check_stands on) _ (may_stand (context_of r) content))

  unchecked_leaf : (s : Standing) (leaf : tree.LeafBlock) → LeafHasNoCheck (read_leaf r s leaf)
  unchecked_leaf s (tree.Paragraph ls) = unchecked_paragraph s.first ls
  unchecked_leaf s leaf = tt

  unchecked : Reads r HaveNoChecks (λ bs. Unit {0})
  unchecked =
      record {
        none = tt;
        ending = λ ending bs p. (tt, p);
        blank = λ ending bs p. (tt, p);
        after = λ ending bs p. p.1;
        others = λ b bs h. tt;
        leaf = λ s leaf bs shown h p. (unchecked_leaf s leaf, p);
        inside = λ c kids bs h. tt;
        container = λ c kids bs held shown h q p. (q, p);
        listed = λ items bs h. tt;
        list = λ number loose held shown q p. (q, p);
      }

pub task_list_item_off_law : TaskListItemOffLaw
task_list_item_off_law tables text options off =
    blocks_read _ _ _ (unchecked _ off) on_page (group_items (blocks options.constructs (kind_before_text text) (without_mark text))) tt
