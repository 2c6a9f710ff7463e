use Rattle.std.proofs.Common.{◌≡◌, true, false, is_some, refl, rules}
use Rattle.fault_walk.proofs.Kept.{label_put, label_there}
use Rattle.fault_walk.proofs.names.Names.put_label.Goals as goal

pub returns-then-is_some : goal.returns-then-is_some
returns-then-is_some c =
    let there : is_some c.get.result ≡ true = search rules in
    label_there c.args.self.now c.args.name.now c.get.result c.get.ensures there

pub returns : goal.returns
returns c =
    let none : is_some c.get.result ≡ false = search rules in
    label_put c.args.self.now (record { labels = c.take.new.self; types = c.args.self.now.types }) c.args.name.now c.get.result c.get.ensures none c.in_ok-take.ensures.names refl
