use Rattle.std.proofs.Common.{refl, sym, ◌∙◌}
use Rattle.parse_events.proofs.Held.{held_items, list_entered, list_kept}
use Rattle.parse_events.proofs.ListRows.{list_begins, list_is_open}
use Rattle.parse_events.proofs.parser.Parser.in_list.Goals as goal

pub returns-then-is_in_list-clause-kept : goal.returns-then-is_in_list-clause-kept
returns-then-is_in_list-clause-kept g c = record { around = refl; held = c.requires.held }

pub returns-then-is_in_list-clause-begins : goal.returns-then-is_in_list-clause-begins
returns-then-is_in_list-clause-begins g c =
    let some = sym c.is_in_list.ensures.list ∙ c.if-is_in_list.true in
    record {
      item = held_items c.args.self.now.open.items _ c.requires.held some;
      begins = list_is_open c.args.list c.args.self.now c.args.self.now some refl;
      items = refl;
      places = refl;
    }

pub returns-clause-kept : goal.returns-clause-kept
returns-clause-kept g c =
    list_kept c.args.list c.name.result c.args.self.now (record c.args.self.now { walk = c.enter.new.self; «open» = c.push.new.self }) _ c.name.ensures
    c.requires.held
    c.in_ok-push.ensures.items c.in_ok-_bare.ensures.open c.in_ok-enter.ensures.open

pub returns-clause-begins : goal.returns-clause-begins
returns-clause-begins g c =
    record {
      item = list_entered c.args.list c.name.result _ _ c.requires.list c.name.ensures c.in_ok-enter.ensures.open;
      begins =
          list_begins c.args.list c.args.self.now (record c.args.self.now { walk = c.enter.new.self; «open» = c.push.new.self }) c.white.new.self
          c.enter.new.self
          c.name.result (sym c.is_in_list.ensures.list ∙ c.if-is_in_list.false) c.requires.list c.in_ok-_bare.ensures.written c.in_ok-_bare.ensures.stays
          c.in_ok-_bare.ensures.end c.name.ensures c.in_ok-enter.ensures.enters c.in_ok-enter.ensures.stays c.in_ok-enter.ensures.end refl
          c.in_ok-push.ensures.items;
      items = refl;
      places = refl;
    }
