use Rattle.std.proofs.Common.{◌∙◌, refl, sym}
use Rattle.html_safe_page.specs.Table.{start_rows}
use Rattle.html_safe_page.specs.Views.{open_names}
use Rattle.html_safe_page.specs.Machine.{frequent_names}
use Rattle.html_safe_page.proofs.Follow.{closed, started, stayed}
use Rattle.html_safe_page.proofs.Frequent.{basic_read, frequent_read}
use Rattle.html_safe_page.proofs.page.follow.Goals as goal

pub returns-in-Some : goal.returns-in-Some
returns-in-Some g c =
    closed c.args.table c.args.tag.now c.in-Some.name c.args.names.now.items c.pop.new.self.items c.eq.result
    (sym c.starts_with.ensures.value ∙ c.if-starts_with.true)
    c.in-Some.ensures.items c.eq.ensures

pub returns-then-is_frequent : goal.returns-then-is_frequent
unfolding start_rows
returns-then-is_frequent g c =
    started c.args.table c.args.tag.now c.args.tag c.args.names.now.items c.push.new.self.items (sym c.starts_with.ensures.value ∙ c.if-starts_with.false)
    c.in_ok-push.ensures.items (basic_read c.args.table c.args.tag.now c.args.tag.now
    (frequent_read frequent_names c.args.tag.now refl (sym c.is_frequent.ensures ∙ c.if-is_frequent.true)))

pub returns-in-Some-start_name : goal.returns-in-Some-start_name
returns-in-Some-start_name g c =
    started c.args.table c.args.tag.now c.in-Some-start_name.name c.args.names.now.items c.push-in-Some-start_name.new.self.items
    (sym c.starts_with.ensures.value ∙ c.if-starts_with.false)
    c.in_ok-push-2.ensures.items c.in-Some-start_name.ensures

pub returns : goal.returns
returns g c =
    stayed c.args.table c.args.tag.now c.is_void.result (open_names c.args.names.now.items) (sym c.starts_with.ensures.value ∙ c.if-starts_with.false)
    c.in_default.ensures c.is_void.ensures
