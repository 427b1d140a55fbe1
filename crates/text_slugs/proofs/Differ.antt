-- The slugs of texts differ from one another.
use Rattle.std.proofs.Common.{◌<◌, ◌+◌, ◌^◌, ℕ, List, [], ◌∷◌, length, arith}
use Rattle.std.proofs.lemmas.Cmp.{nat_list_eq_equiv}
use Rattle.std.proofs.lemmas.List.{length-append}
use Rattle.std.proofs.lemmas.Map.Keys.{IsDistinct-push}
use Rattle.std.specs.List.{fold, IsDistinct}
use Rattle.std.specs.Str.{bytes_eq}
use Rattle.text_slugs.specs.Laws.{SlugsDifferLaw}
use Rattle.definition_page.specs.Slug.{slug_of}
use Rattle.definition_page.specs.Slug.{first_free, with_slug}
use Rattle.definition_page.proofs.FreeSlugs.{first_free_new}

differ : (taken texts : List (List ℕ)) → length taken + length texts < 2 ^ 64 → IsDistinct bytes_eq taken → IsDistinct bytes_eq (fold with_slug taken texts)
differ taken [] small held = held
differ taken (text ∷ texts) small held =
    let free = first_free taken (slug_of text) in
    let size = length-append taken (free ∷ []) in
    differ (with_slug taken text) texts (omega arith)
    (IsDistinct-push nat_list_eq_equiv taken free held (first_free_new taken (slug_of text) (omega arith)))

distinct_none : IsDistinct bytes_eq []
unfolding IsDistinct
distinct_none = tt

pub slugs_differ_law : SlugsDifferLaw
slugs_differ_law texts small = differ [] texts (omega arith) distinct_none
