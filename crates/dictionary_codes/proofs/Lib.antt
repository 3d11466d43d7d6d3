mod CodedRuns
mod Codes
mod Known
mod MaskedCodes
mod Named
mod Places
mod Stamped
mod Written
