-- The check of a task list item, and what it prints (GFM 5.3).
use Rattle.std.specs.Prelude.{Bool, if◌then◌else◌, List, [], ◌∷◌, ◌++◌, codes}
use Rattle.markdown_compile_options.specs.declared.configuration.CompileOptions.{CompileOptions}
use Rattle.definition_page.specs.Tags.{Attribute, attribute, Tag, tag}

abbrev pub checkable_attributes : Bool → List Attribute
checkable_attributes checkable = if checkable then [] else attribute (codes "disabled") [] ∷ []

abbrev pub done_attributes : Bool → List Attribute
done_attributes done = if done then attribute (codes "checked") [] ∷ [] else []

-- a check box, which can't be changed unless that is asked for (GFM 5.3)
abbrev pub check_tag : CompileOptions → Bool → Tag
check_tag options done =
    tag (codes "input")
    (attribute (codes "type") (codes "checkbox") ∷ checkable_attributes options.gfm_task_list_item_checkable ++ done_attributes done)
