-- Winding: a running sum is never -0 (specs/Laws.antt). Lowest: a word without its lowest bit. Runs: a row summed in
-- runs. Words: the touched cells, by the words of marks. Outside: the bytes that a sweep leaves as they were. Modulo: a
-- winding's size modulo 2.
pub mod Winding
pub mod Lowest
pub mod Runs
pub mod Words
pub mod Outside
pub mod Modulo
