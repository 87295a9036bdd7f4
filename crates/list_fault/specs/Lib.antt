-- ListFault: the faults 5, 6 and 7 of a word list, said of the lists that are written.
pub mod ListFault
