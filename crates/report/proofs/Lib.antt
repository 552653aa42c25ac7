-- Laws of the program's answer.
mod Passing
mod Reporting
