use Rattle.hd_subs.proofs.Values.{other_type_in}
use Rattle.hd_subs.proofs.class_reading.read_type.Goals as goal

pub returns-in_default-bytes_of_value-clause-err : goal.returns-in_default-bytes_of_value-clause-err
returns-in_default-bytes_of_value-clause-err c = other_type_in c.args.key_len c.args.from.rest.now c.in-Some.ensures.0 c.in_default-bytes_of_value.ensures
