use Rattle.rule_base.specs.Books.{sound_along}
use Rattle.rule_base.proofs.rule_book.book_is_sound.Goals as goal

pub returns : goal.returns
returns g c = sound_along _ _ (λ b scope schema h. (g.dyn-1-met b.vtable).0.sound b.value scope schema h) c.args.book.now.rules.items
