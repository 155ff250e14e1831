-- `tell::blank_cells` meets its contract: every number of the array is 0.
use Rattle.sheet.specs.Sheet.{sheet_length}
use Rattle.arrays.proofs.Arrays.{zeros}
use Rattle.tell.proofs.blank_cells.Goals as goal

pub returns : goal.returns
returns c = zeros sheet_length
