use Rattle.token_context.proofs.NameSurroundings.Reading.{read_start}
use Rattle.token_context.proofs.name_surroundings.around.start_at.Goals as goal

pub returns : goal.returns
returns c = read_start c.args.tokens.now c.args.index _ c.requires
