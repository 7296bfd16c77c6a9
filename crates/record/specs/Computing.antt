-- A key for computed cases: what opens it may compute with every definition of this crate and of those below.
use Rattle.term.specs.Computing
use Rattle.record.specs.Record.{record_bytes, fault_refusal, refusal_of, record_node, record_end, nodes_from, one_term, record_term, read_record}
use Rattle.record.specs.Meaning.{record_meaning, record_verdict, term_found}
use Rattle.record.specs.Examples.{one_and_none}

unfoldable reading : Unit {0}
unfolding record_bytes fault_refusal refusal_of record_node record_end nodes_from one_term record_term read_record
reading = tt

unfoldable pub computing : Unit {0}
unfolding Computing.computing reading record_meaning record_verdict term_found one_and_none
computing = tt
