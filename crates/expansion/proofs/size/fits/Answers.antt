-- `fits` meets its contract.
use Rattle.expansion.proofs.SizeLaws.{sum_fits, whole-fits, fits_one, fits-sure, fits-walked}
use Rattle.expansion.proofs.size.fits.Goals as goal

pub returns-then-form-eq-FORM1 : goal.returns-then-form-eq-FORM1
returns-then-form-eq-FORM1 c = search fits_one

pub overflow_add-size : goal.overflow_add-size
overflow_add-size c = record { fits = search sum_fits }

pub returns-then-size-room : goal.returns-then-size-room
returns-then-size-room c = search fits-sure

pub overflow_add-result : goal.overflow_add-result
overflow_add-result c = record { fits = search whole-fits }

pub returns : goal.returns
returns c = search fits-walked
