use Rattle.hd_terms.proofs.OneReading.{same_records, same_sub_records, same_dump}
use Rattle.hd_terms.proofs.OneFault.{no_fault, same_read_fault}
use Rattle.hd_terms.proofs.laws.one_reading.Goals as goal

pub returns-clause-records : goal.returns-clause-records
returns-clause-records c = same_records

pub returns-clause-sub_records : goal.returns-clause-sub_records
returns-clause-sub_records c = same_sub_records

pub returns-clause-dumps : goal.returns-clause-dumps
returns-clause-dumps c = same_dump

pub returns-clause-no_fault : goal.returns-clause-no_fault
returns-clause-no_fault c = no_fault

pub returns-clause-faults : goal.returns-clause-faults
returns-clause-faults c = same_read_fault
