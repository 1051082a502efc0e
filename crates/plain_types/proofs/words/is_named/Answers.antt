-- A type is a named one by its variant.
use Rattle.plain_types.specs.WordLaws.{named-named, other-unnamed}
use Rattle.plain_types.proofs.words.is_named.Goals as goal

pub returns-in-Named : goal.returns-in-Named
returns-in-Named c = named-named c.in-Named.is

pub returns-in_default : goal.returns-in_default
returns-in_default c = other-unnamed _ c.in_default.not-Named
