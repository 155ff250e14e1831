-- `search::kept::rise` meets its contract.
use mathlib.Core.Path.{refl}
use Rattle.search.proofs.kept.rise.Goals as goal

pub passed-three-requires : goal.passed-three-requires
passed-three-requires c = record { searching = c.requires.searching; left_bound = (c.requires.left_nonzero.1, record { places = 15; is = refl }) }

pub passed-two-requires : goal.passed-two-requires
passed-two-requires c = record { searching = c.requires.searching; left_bound = (c.requires.left_nonzero.1, record { places = 10; is = refl }) }

pub passed-one-requires : goal.passed-one-requires
passed-one-requires c = record { searching = c.requires.searching; left_bound = (c.requires.left_nonzero.1, record { places = 5; is = refl }) }

pub passed-requires : goal.passed-requires
passed-requires c = record { searching = c.requires.searching; left_bound = (c.requires.left_nonzero.1, record { places = 2; is = refl }) }
